-- Rounding. A quotient n / d of whole numbers is rounded to a whole number q: by the value `rounded`,
-- which the code computes, and by the relation `Rounded`, which says what each rounding means.
use Rattle.std.specs.Prelude.{◌≡◌, ℕ, ◌+◌, ◌-◌, ◌*◌, ◌/◌, ◌≤◌, Bool, false, nat_le, nat_lt}
use Rattle.tariff.specs.declared.codes.Rounding.{Rounding}
use Rattle.tariff.specs.declared.codes.Rounding.TheVariants.{Up, Down, Nearest}

-- a quotient by 0 is 0
unfoldable pub rounded : Rounding → ℕ → ℕ → ℕ
rounded Up n d = (n + (d - 1)) / d
rounded Down n d = n / d
rounded Nearest n d = (2 * n + d) / (2 * d)

-- whether the rounding of a quotient with remainder r is one above its whole part
abbrev pub raises : Rounding → ℕ → ℕ → Bool
raises Up r d = nat_lt 0 r
raises Down r d = false
raises Nearest r d = nat_le (d - r) r

-- q is the least whole number not below n / d
pub record LeastNotBelow (n d q : ℕ) : Type 0 where
  pub not_below : n ≤ q * d
  pub least : (m : ℕ) → n ≤ m * d → q ≤ m

-- q is the greatest whole number not above n / d
pub record GreatestNotAbove (n d q : ℕ) : Type 0 where
  pub not_above : q * d ≤ n
  pub greatest : (m : ℕ) → m * d ≤ n → m ≤ q

-- how far two numbers lie apart
abbrev pub distance : ℕ → ℕ → ℕ
distance a b = (a - b) + (b - a)

-- no whole number is nearer to n / d than q, and one that is as near is not above q
pub record NearestHalvesUp (n d q : ℕ) : Type 0 where
  pub nearest : (m : ℕ) → distance (q * d) n ≤ distance (m * d) n
  pub halves_up : (m : ℕ) → distance (m * d) n ≡ distance (q * d) n → m ≤ q

-- q is n / d, rounded
abbrev pub Rounded : Rounding → ℕ → ℕ → ℕ → Type 0
Rounded Up n d q = LeastNotBelow n d q
Rounded Down n d q = GreatestNotAbove n d q
Rounded Nearest n d q = NearestHalvesUp n d q
