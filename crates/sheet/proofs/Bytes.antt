-- A field byte by byte, a number in bytes and back, and one write after another.
use Rattle.std.proofs.Common.{◌≡◌, ℕ, zero, suc, ◌+◌, ◌*◌, ◌/◌, ◌%◌, ◌^◌, ◌<◌, ◌≤◌, List, Bor, [], ◌∷◌, ◌++◌, length, get_or, take, drop, sym, refl, ap, ◌∙◌, mod-eq_of_lt, mul_assoc, add-mul, mul-one, div-one, arith, lit<}
use native.Mathlib.Nat.{mod-one, one-le-pow, pow-succ'}
use Rattle.std.proofs.Math.Arith.{mod-mul}
use Rattle.std.proofs.lemmas.Nat.{div-mul-add, mod-mul-add}
use Rattle.std.proofs.lemmas.Int.Digits.{number_lt}
use Rattle.std.specs.Int.{bytes_high_first}
use Rattle.std.specs.Prelude.{All}
use Rattle.std.proofs.lemmas.Grind.{flat_map-append}
use Rattle.std.specs.Int.Digits.{number_from_digits, number_from_digits_after}
use Rattle.std.proofs.lemmas.List.Elements.{All-head, All-tail, recursion_from_All}
use Rattle.std.proofs.lemmas.List.{drop_more, take_more, append-nil, append_assoc, length-take-le, length-append, length-drop, take_at, drop_at, drop-drop}
use Rattle.sheet.specs.Fields.{high_first, bytes_at, written, joined}

abbrev pub AreBytes : List ℕ → Type 0
AreBytes bytes = All (λ b. b < 256) bytes

-- bytes of a body are a part of it
pub bytes_part : (body : List ℕ) (place n : ℕ) → place + n ≤ length body → bytes_at body place n ≡ take n (drop place body)
bytes_part body place zero fits = refl
bytes_part body place (suc n) fits =
    let within : place < length body = omega arith in
    ap (λ rest. get_or body place 0 ∷ rest) (bytes_part body (place + 1) n (omega arith))
    ∙ sym (ap (take (suc n)) (drop_more body place 0 within))

moved_up : (a d n : ℕ) → (a * 256 + d) * 256 ^ n ≡ a * 256 ^ suc n + d * 256 ^ n
moved_up a d n = add-mul (a * 256) d (256 ^ n) ∙ ap (λ m. m + d * 256 ^ n) (mul_assoc a 256 (256 ^ n) ∙ ap (λ m. a * m) (sym (pow-succ' 256 n)))

-- digits after a number: the number moves up by as many places
after_is : (a : ℕ) (ds : List ℕ) → number_from_digits_after 256 a ds ≡ a * 256 ^ length ds + number_from_digits 256 ds
after_is a [] = rw (mul-one) (omega arith)
after_is a (d ∷ ds) =
    let here = after_is (a * 256 + d) ds in
    let first = after_is (0 * 256 + d) ds in
    let more = moved_up a d (length ds) in
    let none : (0 * 256 + d) * 256 ^ length ds ≡ d * 256 ^ length ds = ap (λ m. m * 256 ^ length ds) (omega arith) in
    omega (arith, here, first, more, none)

-- a number in bytes holds what fits
pub after_high_first : (n a x : ℕ) → number_from_digits_after 256 a (high_first n x) ≡ a * 256 ^ n + x % 256 ^ n
unfolding high_first
after_high_first zero a x = rw (mul-one, mod-one) (omega arith)
after_high_first (suc n) a x =
    let rest = after_high_first n (a * 256 + x / 256 ^ n % 256) x in
    let up : (a * 256 + x / 256 ^ n % 256) * 256 ^ n ≡ a * 256 ^ suc n + x / 256 ^ n % 256 * 256 ^ n = moved_up a (x / 256 ^ n % 256) n in
    let split : x % 256 ^ suc n ≡ (x / 256 ^ n % 256) * 256 ^ n + x % 256 ^ n = ap (λ m. x % m) (pow-succ' 256 n) ∙ mod-mul x (lit< tt) (one-le-pow n 256 (lit< tt)) in
    omega (arith, rest, up, split)

pub number_high_first : (n x : ℕ) → x < 256 ^ n → number_from_digits 256 (high_first n x) ≡ x
number_high_first n x fits = omega (arith, after_high_first n 0 x, mod-eq_of_lt fits)

-- bytes are those of the number that they hold
pub high_first_after : (a : ℕ) (ds : List ℕ) → AreBytes ds → high_first (length ds) (number_from_digits_after 256 a ds) ≡ ds
unfolding high_first
high_first_after a [] u = refl
high_first_after a (d ∷ ds) u = ap (λ x. x ∷ high_first (length ds) (number_from_digits_after 256 (a * 256 + d) ds)) first ∙ ap (λ xs. d ∷ xs) (high_first_after (a * 256 + d) ds tail)
  where
    tail : AreBytes ds
    tail = All-tail (λ b. b < 256) d ds u

    quotient : number_from_digits_after 256 (a * 256 + d) ds / 256 ^ length ds ≡ a * 256 + d
    quotient = ap (λ m. m / 256 ^ length ds) (after_is (a * 256 + d) ds) ∙ div-mul-add (a * 256 + d) (256 ^ length ds) (number_from_digits 256 ds) (number_lt 256 ds (recursion_from_All (λ b. b < 256) ds tail))

    first : number_from_digits_after 256 (a * 256 + d) ds / 256 ^ length ds % 256 ≡ d
    first = ap (λ m. m % 256) quotient ∙ mod-mul-add a 256 d (All-head (λ b. b < 256) d ds u)

-- one write after another is one write
module _ (p : ℕ) (a b space : List ℕ) (fits : p + (length a + length b) ≤ length space) where
  front_length : length (take p space ++ a) ≡ p + length a
  front_length = length-append (take p space) a ∙ ap (λ n. n + length a) (length-take-le p space (omega arith))

  first_shape : written p a space ≡ (take p space ++ a) ++ drop (p + length a) space
  unfolding written
  first_shape = sym (append_assoc (take p space) a (drop (p + length a) space))

  kept_front : take (p + length a) (written p a space) ≡ take p space ++ a
  kept_front = ap (take (p + length a)) first_shape ∙ take_at (take p space ++ a) (drop (p + length a) space) (p + length a) front_length

  left_behind : drop (p + length a + length b) (written p a space) ≡ drop (p + length (a ++ b)) space
  left_behind =
      sym (drop-drop (length b) (p + length a) (written p a space))
      ∙ ap (drop (length b)) (ap (drop (p + length a)) first_shape ∙ drop_at (take p space ++ a) (drop (p + length a) space) (p + length a) front_length)
      ∙ drop-drop (length b) (p + length a) space
      ∙ ap (λ n. drop n space) (omega (arith, length-append a b))

  joined_writes : written (p + length a) b (written p a space) ≡ written p (a ++ b) space
  unfolding written
  joined_writes =
      ap (λ xs. xs ++ (b ++ drop (p + length a + length b) (written p a space))) kept_front
      ∙ ap (λ xs. (take p space ++ a) ++ (b ++ xs)) left_behind
      ∙ append_assoc (take p space) a (b ++ drop (p + length (a ++ b)) space)
      ∙ ap (λ xs. take p space ++ xs) (sym (append_assoc a b (drop (p + length (a ++ b)) space)))

-- two writes, the second where the first ended
pub written_then : (p q m n : ℕ) (a b before between after : List ℕ) → length a ≡ m → length b ≡ n → between ≡ written p a before → after ≡ written q b between → q ≡ p + m → p + (m + n) ≤ length before → after ≡ written p (a ++ b) before
written_then p q m n a b before between after size-a size-b first second next fits =
    second ∙ ap (λ i. written i b between) (next ∙ ap (λ k. p + k) (sym size-a)) ∙ ap (written (p + length a) b) first ∙ joined_writes p a b before (omega arith)

pub length_written : (p : ℕ) (a space : List ℕ) → p + length a ≤ length space → length (written p a space) ≡ length space
unfolding written
length_written p a space fits = simp (length-append, length-drop) (omega (arith, length-take-le p space (omega arith)))

pub length_high_first : (n x : ℕ) → length (high_first n x) ≡ n
unfolding high_first
length_high_first zero x = refl
length_high_first (suc n) x = ap suc (length_high_first n x)

-- the bytes of `to_be_bytes`
pub to_be_bytes_high_first : (n x : ℕ) → bytes_high_first n x ≡ high_first n x
unfolding high_first
to_be_bytes_high_first zero x = refl
to_be_bytes_high_first (suc zero) x = ap (λ b. b % 256 ∷ []) (sym (div-one x))
to_be_bytes_high_first (suc (suc n)) x = ap (λ bs. x / 256 ^ suc n % 256 ∷ bs) (to_be_bytes_high_first (suc n) x)

-- one part more
pub joined_more : (parts : List (Bor (List ℕ))) (i : ℕ) (d : Bor (List ℕ)) → i < length parts → joined (take (i + 1) parts) ≡ joined (take i parts) ++ (get_or parts i d).now
joined_more parts i d within =
    ap joined (take_more parts i d within)
    ∙ flat_map-append (λ (part : Bor (List ℕ)). part.now) (take i parts) (get_or parts i d ∷ [])
    ∙ ap (λ bs. joined (take i parts) ++ bs) (append-nil (get_or parts i d).now)
