-- The bits of a number, and the classes of a set.
use Rattle.std.proofs.Common.{◌≡◌, ℕ, ◌+◌, ◌-◌, ◌*◌, ◌/◌, ◌%◌, ◌^◌, ◌<◌, ◌≤◌, min, max, Bool, true, false, ◌&&◌, ◌||◌, eqb, ltb, leb, sym, ap, ◌∙◌, ⊎_elim, one-mul, arith, lit<, pow_mono}
use native.Mathlib.Nat.{zero-div}
use native.Mathlib.Numerals.{unary_clauses}
use Rattle.std.specs.Int.Bits.{bit_and, bit_or, and_step, or_step}
use Rattle.std.proofs.lemmas.Nat.{and_le_l, and_shr, or_shr, leading_top, div-mul-add, mod-mul-add, pow_pos, mod_below, le-div, div_below}
use Rattle.std.proofs.lemmas.Bool.{and_parts, and_from, cases_lt, cases_Bool, eqb-true, eqb-false, eq-eqb, ne_eqb, leb-true, ltb-true, le-leb, lt-ltb, le-ltb, not-true, not_from_false}
use Rattle.std.proofs.lemmas.Bool.Decides.{nat_tests}
use Rattle.classes.specs.Times.{has_bit}
use Rattle.lines.specs.declared.sets.ClassSet.{ClassSet}
use Rattle.lines.specs.Sets.{has_class, set_fits, sets_meet, union, ClassInBoth}

-- a number of 64 bits has none above the sixty-fourth
pub within_wide : (n count : ℕ) → n < 2 ^ 64 → 64 ≤ count → true ≡ ltb n (2 ^ count)
within_wide n count h le = sym (lt-ltb n (2 ^ count) (omega (arith, h, pow_mono le)))

-- nothing is left of a number past its bits
pub none_left : (n k : ℕ) → eqb (n / 2 ^ k) 0 ≡ ltb n (2 ^ k)
none_left n k =
    ⊎_elim
    (λ lt. eq-eqb (n / 2 ^ k) 0 (omega (arith, div_below n (2 ^ k) 1 (pow_pos k) (omega (arith, lt, one-mul (2 ^ k))))) ∙ sym (lt-ltb n (2 ^ k) lt))
    (λ le. ne_eqb (n / 2 ^ k) 0 (λ e. omega (arith, e, le-div 1 n (2 ^ k) (pow_pos k) (omega (arith, le, one-mul (2 ^ k))))) ∙ sym (le-ltb n (2 ^ k) le))
    (cases_lt n (2 ^ k))

-- one bit of a sum of bits
low_bit : (q r : ℕ) → r < 2 → (q * 2 + r) % 2 ≡ r
low_bit q r h = mod-mul-add q 2 r h

pub and_bit : (a b k : ℕ) → bit_and a b / 2 ^ k % 2 ≡ min (a / 2 ^ k % 2) (b / 2 ^ k % 2)
and_bit a b k =
    let x : ℕ = a / 2 ^ k in
    let y : ℕ = b / 2 ^ k in
    ap (λ n. n % 2) (and_shr a b k ∙ and_step x y) ∙ low_bit (bit_and (x / 2) (y / 2)) (min (x % 2) (y % 2)) (omega (arith, mod_below x 2, mod_below y 2))

pub or_bit : (a b k : ℕ) → bit_or a b / 2 ^ k % 2 ≡ max (a / 2 ^ k % 2) (b / 2 ^ k % 2)
or_bit a b k =
    let x : ℕ = a / 2 ^ k in
    let y : ℕ = b / 2 ^ k in
    ap (λ n. n % 2) (or_shr a b k ∙ or_step x y) ∙ low_bit (bit_or (x / 2) (y / 2)) (max (x % 2) (y % 2)) (omega (arith, mod_below x 2, mod_below y 2))

-- a number above 0 has a bit that is set
some_bit : (n w : ℕ) → 0 < n → n < 2 ^ w → (k : ℕ) × (k < w) × (n / 2 ^ k % 2 ≡ 1)
some_bit n w pos lt =
    let top = leading_top w n pos lt in
    let k : ℕ = top.0 in
    let low = top.2 in
    let high = simp unary_clauses at top.3 in
    let whole : 1 * 2 ^ k + (n - 2 ^ k) ≡ n = omega (arith, low, one-mul (2 ^ k)) in
    let one : n / 2 ^ k ≡ 1 = rw whole at (div-mul-add 1 (2 ^ k) (n - 2 ^ k) (omega (arith, low, high))) in
    (k, omega (arith, top.1), ap (λ m. m % 2) one)

either_bit : (low high : Bool) (x y : ℕ) → x < 2 → y < 2 → (low && high && eqb (max x y) 1) ≡ ((low && high && eqb x 1) || (low && high && eqb y 1))
either_bit low high x y p q = grind (arith, nat_tests)

-- a class is in a union when it is in one of the two sets
pub has_union : (a b : ClassSet) (c : ℕ) → has_class (union a b) c ≡ (has_class a c || has_class b c)
has_union a b c =
    let x : ℕ = a.0 / 2 ^ (c - 1) in
    let y : ℕ = b.0 / 2 ^ (c - 1) in
    ap (λ n. leb 1 c && leb c 64 && eqb n 1) (or_bit a.0 b.0 (c - 1)) ∙ either_bit (leb 1 c) (leb c 64) (x % 2) (y % 2) (mod_below x 2 (lit< tt)) (mod_below y 2 (lit< tt))

no_bit : (n k : ℕ) → n ≡ 0 → n / 2 ^ k % 2 ≡ 0
no_bit n k e = ap (λ m. m / 2 ^ k % 2) e ∙ ap (λ m. m % 2) (zero-div (2 ^ k))

-- the class is from 1 to 64, and its bit is set
pub class_parts : (s : ClassSet) (c : ℕ) → has_class s c ≡ true → (1 ≤ c) × (c ≤ 64) × (s.0 / 2 ^ (c - 1) % 2 ≡ 1)
class_parts s c h =
    let outer = and_parts (leb 1 c && leb c 64) (has_bit s.0 (c - 1)) h in
    let range = and_parts (leb 1 c) (leb c 64) outer.0 in
    (leb-true 1 c range.0, leb-true c 64 range.1, eqb-true (s.0 / 2 ^ (c - 1) % 2) 1 outer.1)

class_from : (s : ClassSet) (k : ℕ) → k < 64 → s.0 / 2 ^ k % 2 ≡ 1 → has_class s (k + 1) ≡ true
class_from s k lt e =
    let same : (k + 1) - 1 ≡ k = omega arith in
    and_from _ _ (and_from _ _ (le-leb 1 (k + 1) (omega arith)) (le-leb (k + 1) 64 (omega arith))) (rw same (eq-eqb _ 1 e))

-- the empty set has no class
pub has_none : (s : ClassSet) (c : ℕ) → s.0 ≡ 0 → has_class s c ≡ false
has_none s c e = ⊎_elim (λ h. absurd (omega (arith, (class_parts s c h).2, no_bit s.0 (c - 1) e))) (λ h. h) (cases_Bool (has_class s c))

-- two sets of 64 bits meet exactly when a class is in both
pub meet_shared : (a b : ClassSet) → a.0 < 2 ^ 64 → sets_meet a b ≡ true → ClassInBoth a b
meet_shared a b lt h =
    let both : ℕ = bit_and a.0 b.0 in
    let some : 0 < both = omega (arith, eqb-false both 0 (not-true (eqb both 0) h)) in
    let bit = some_bit both 64 some (omega (arith, lt, and_le_l a.0 b.0)) in
    let k : ℕ = bit.0 in
    let least : min (a.0 / 2 ^ k % 2) (b.0 / 2 ^ k % 2) ≡ 1 = sym (and_bit a.0 b.0 k) ∙ bit.2 in
    let first : a.0 / 2 ^ k % 2 ≡ 1 = omega (arith, least, mod_below (a.0 / 2 ^ k) 2) in
    let second : b.0 / 2 ^ k % 2 ≡ 1 = omega (arith, least, mod_below (b.0 / 2 ^ k) 2) in
    record { shared = k + 1; in_first = class_from a k bit.1 first; in_second = class_from b k bit.1 second }

pub shared_meet : (a b : ClassSet) → ClassInBoth a b → sets_meet a b ≡ true
shared_meet a b both =
    let both_bits : ℕ = bit_and a.0 b.0 in
    let k : ℕ = both.shared - 1 in
    let first = (class_parts a both.shared both.in_first).2 in
    let second = (class_parts b both.shared both.in_second).2 in
    not_from_false (eqb both_bits 0) (ne_eqb both_bits 0 (λ e. omega (arith, and_bit a.0 b.0 k, no_bit both_bits k e, first, second)))

-- a set that fits a count has no class above it
pub fits_below : (count : ℕ) (s : ClassSet) (c : ℕ) → set_fits count s ≡ true → has_class s c ≡ true → c ≤ count
fits_below count s c fit has =
    let small = ltb-true s.0 (2 ^ count) (and_parts (ltb 0 s.0) (ltb s.0 (2 ^ count)) fit).1 in
    let parts = class_parts s c has in
    let above : count < c → ⊥ = λ lt.
    let le : count ≤ c - 1 = omega arith in
    let wide = pow_mono le in
    let none : s.0 / 2 ^ (c - 1) ≡ 0 = omega (arith, div_below s.0 (2 ^ (c - 1)) 1 (pow_pos (c - 1)) (omega (arith, small, wide, one-mul (2 ^ (c - 1))))) in
    omega (arith, parts.2, ap (λ m. m % 2) none) in
    ⊎_elim (λ lt. absurd (above lt)) (λ le. le) (cases_lt count c)
