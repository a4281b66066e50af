-- The sums of a fee stay below 64 bits.
use Rattle.std.proofs.Common.{ℕ, ◌+◌, ◌-◌, ◌*◌, ◌^◌, ◌<◌, arith}
use Rattle.std.proofs.lemmas.Nat.{mul-le}
use Rattle.tariff.specs.declared.terms.Tariff.{Tariff}
use Rattle.tariff.specs.Fees.{base_of}
use Rattle.tariff.proofs.Quotients.{rounded_le}

-- a base of two numbers of 32 bits leaves room for a third
pub base_room : (t : Tariff) (amount offset : ℕ) → t.rate < 2 ^ 32 → amount < 2 ^ 32 → offset < 2 ^ 32 → base_of t amount + offset < 2 ^ 64
base_room t amount offset r a o =
    omega (arith, rounded_le t.rounding (t.rate * amount) t.unit, mul-le t.rate amount (2 ^ 32 - 1) (2 ^ 32 - 1) (omega arith) (omega arith))
