-- Numbers of fixed width, the high byte first; and bytes that are written over a space.
use Rattle.std.specs.Prelude.{ℕ, zero, suc, ◌+◌, ◌/◌, ◌%◌, ◌^◌, List, [], ◌∷◌, ◌++◌, length, take, drop, slice_index, flat_map}
use Rattle.std.specs.Borrow.{Bor}
use Rattle.std.specs.Int.Digits.{number_from_digits}

-- a number in so many bytes
unfoldable pub high_first : ℕ → ℕ → List ℕ
high_first zero x = []
high_first (suc n) x = x / 256 ^ n % 256 ∷ high_first n x

-- so many bytes of a body, from a place on
abbrev pub bytes_at : List ℕ → ℕ → ℕ → List ℕ
bytes_at body place zero = []
bytes_at body place (suc n) = slice_index body place ∷ bytes_at body (place + 1) n

-- the number that they write
abbrev pub field_at : List ℕ → ℕ → ℕ → ℕ
field_at body place width = number_from_digits 256 (bytes_at body place width)

-- a space after bytes were written over it, from a place on
unfoldable pub written : ℕ → List ℕ → List ℕ → List ℕ
written place bytes space = take place space ++ (bytes ++ drop (place + length bytes) space)

-- the bytes of parts, one after another
abbrev pub joined : List (Bor (List ℕ)) → List ℕ
joined parts = flat_map (λ part. part.now) parts
