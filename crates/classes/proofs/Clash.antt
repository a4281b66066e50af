-- Values of two different cases are never equal.
use Rattle.std.proofs.Common.{◌≡◌, ℕ, arith}

-- what follows where equations make 0 and 1 the same, as `cc` finds it where they make two different cases the same
pub clash : {P : Type 0} → ◌≡◌ {A = ℕ} 0 1 → P
clash z = absurd (omega (arith, z))
