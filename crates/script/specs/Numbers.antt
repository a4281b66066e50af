-- Numbers in decimal: digits and nothing else, at least one of them.
use Rattle.std.specs.Prelude.{ℕ, ◌+◌, ◌-◌, ◌*◌, Bool, true, cond, not, ◌&&◌, List, [], ◌∷◌, length, Some, None, Option, ◌==◌, nat_le}

-- a byte from "0" to "9"
abbrev pub is_digit : ℕ → Bool
is_digit b = nat_le 48 b && nat_le b 57

-- every byte is a digit
abbrev pub digits_only : List ℕ → Bool
digits_only [] = true
digits_only (b ∷ bs) = is_digit b && digits_only bs

-- the value of a digit
abbrev pub digit_of : ℕ → Option ℕ
digit_of b = cond (is_digit b) (Some (b - 48)) None

-- the number that digits write behind a number
abbrev pub value_behind : ℕ → List ℕ → ℕ
value_behind n [] = n
value_behind n (b ∷ bs) = value_behind (n * 10 + (b - 48)) bs

-- the number that a word writes in decimal, if it is at most so much
abbrev pub number_of : ℕ → List ℕ → Option ℕ
number_of most w = cond (not (length w == 0) && digits_only w && nat_le (value_behind 0 w) most) (Some (value_behind 0 w)) None
