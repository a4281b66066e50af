-- Texts as numbers, the first byte highest: they stand in the order of their numbers.
use Rattle.std.proofs.Common.{◌≡◌, ℕ, suc, ◌+◌, ◌*◌, ◌^◌, ◌<◌, ◌≤◌, List, [], ◌∷◌, length, get_or, sym, refl, ap, ◌∙◌, ⊎_elim, arith, lit<}
use native.Mathlib.Nat.{pow-succ'}
use Rattle.std.proofs.Math.Nat.{mul-le-mul_right}
use Rattle.std.specs.Prelude.{nat_le}
use Rattle.std.specs.Int.{w64, from_be_bytes}
use Rattle.std.proofs.lemmas.Bool.{cases_order, le-leb, lt-leb}
use Rattle.classes.specs.Keys.{bytes_upto}
use Rattle.classes.specs.Orders.{before_same, before_less, before_more}

abbrev rank : List ℕ → ℕ
rank [] = 0
rank (x ∷ xs) = x * 256 ^ length xs + rank xs

abbrev pub Small : List ℕ → Type 0
Small xs = (i : ℕ) → get_or xs i 0 < 256

rank_lt : (xs : List ℕ) → Small xs → rank xs < 256 ^ length xs
rank_lt [] small = lit< tt
rank_lt (x ∷ xs) small =
    let here : x ≤ 255 = omega (arith, small 0) in
    let most = mul-le-mul_right (256 ^ length xs) here in
    let rest = rank_lt xs (λ i. small (suc i)) in
    omega (arith, most, rest, pow-succ' 256 (length xs))

-- a lower first byte, whatever stands behind it
below : (x y p m n : ℕ) → x < y → m < p → x * p + m < y * p + n
below x y p m n less small =
    let next : x + 1 ≤ y = omega (arith, less) in
    let most = mul-le-mul_right p next in
    let once : (x + 1) * p ≡ x * p + p = omega arith in
    omega (arith, most, once, small)

same_first : (k m n : ℕ) → nat_le (k + m) (k + n) ≡ nat_le m n
same_first k m n =
    ⊎_elim
    (λ e. rw (le-leb m n (omega (arith, e)), le-leb (k + m) (k + n) (omega (arith, e))) refl)
    (⊎_elim
    (λ lt. rw (le-leb m n (omega (arith, lt)), le-leb (k + m) (k + n) (omega (arith, lt))) refl)
    (λ gt. rw (lt-leb m n gt, lt-leb (k + m) (k + n) (omega (arith, gt))) refl))
    (cases_order m n)

upto_is : (xs ys : List ℕ) → length xs ≡ length ys → Small xs → Small ys → nat_le (rank xs) (rank ys) ≡ bytes_upto xs ys
upto_is [] [] same small small_too = refl
upto_is [] (y ∷ ys) same small small_too = absurd (omega (arith, same))
upto_is (x ∷ xs) [] same small small_too = absurd (omega (arith, same))
upto_is (x ∷ xs) (y ∷ ys) same small small_too =
    let many : length xs ≡ length ys = omega (arith, same) in
    let p : 256 ^ length ys ≡ 256 ^ length xs = ap (λ n. 256 ^ n) (sym many) in
    let rest = upto_is xs ys many (λ i. small (suc i)) (λ i. small_too (suc i)) in
    let in_xs = rank_lt xs (λ i. small (suc i)) in
    let in_ys : rank ys < 256 ^ length xs = omega (arith, p, rank_lt ys (λ i. small_too (suc i))) in
    rw p (
    ⊎_elim
    (λ e. rw (before_same x y e, sym e) (same_first (x * 256 ^ length xs) (rank xs) (rank ys) ∙ rest))
    (⊎_elim
    (λ lt. rw (before_less x y lt) (le-leb _ _ (omega (arith, below x y (256 ^ length xs) (rank xs) (rank ys) lt in_xs))))
    (λ gt. rw (before_more x y gt) (lt-leb _ _ (below y x (256 ^ length xs) (rank ys) (rank xs) gt in_ys))))
    (cases_order x y))

rank_is : (xs : List ℕ) → length xs ≡ 8 → from_be_bytes w64 xs ≡ rank xs
rank_is [] e = absurd (omega (arith, e))
rank_is (a ∷ []) e = absurd (omega (arith, e))
rank_is (a ∷ b ∷ []) e = absurd (omega (arith, e))
rank_is (a ∷ b ∷ c ∷ []) e = absurd (omega (arith, e))
rank_is (a ∷ b ∷ c ∷ d ∷ []) e = absurd (omega (arith, e))
rank_is (a ∷ b ∷ c ∷ d ∷ f ∷ []) e = absurd (omega (arith, e))
rank_is (a ∷ b ∷ c ∷ d ∷ f ∷ g ∷ []) e = absurd (omega (arith, e))
rank_is (a ∷ b ∷ c ∷ d ∷ f ∷ g ∷ h ∷ []) e = absurd (omega (arith, e))
rank_is (a ∷ b ∷ c ∷ d ∷ f ∷ g ∷ h ∷ k ∷ []) e = omega arith
rank_is (a ∷ b ∷ c ∷ d ∷ f ∷ g ∷ h ∷ k ∷ l ∷ rest) e = absurd (omega (arith, e))

-- two texts of eight bytes, and their numbers
pub texts_upto : (xs ys : List ℕ) (m n : ℕ) → length xs ≡ 8 → length ys ≡ 8 → Small xs → Small ys → m ≡ from_be_bytes w64 xs → n ≡ from_be_bytes w64 ys → nat_le m n ≡ bytes_upto xs ys
texts_upto xs ys m n eight eight_too small small_too is is_too =
    rw (is ∙ rank_is xs eight, is_too ∙ rank_is ys eight_too) (upto_is xs ys (eight ∙ sym eight_too) small small_too)
