-- The classes of a set are those that an item of its word names.
use Rattle.std.proofs.Common.{◌≡◌, ℕ, zero, suc, ◌+◌, ◌-◌, ◌*◌, ◌/◌, ◌%◌, ◌^◌, ◌<◌, ◌≤◌, true, ◌&&◌, ◌||◌, eqb, ltb, leb, List, [], ◌∷◌, IfSome, Some, None, Option, sym, refl, ap, ◌∙◌, ⊎_elim, one-mul, arith, pow-add}
use Rattle.std.proofs.Math.Pow.{pow-lt}
use Rattle.std.proofs.Math.Bool.{or_assoc, or-false}
use Rattle.std.proofs.lemmas.Nat.{pow_pos, div_below, mod-mul-add, shl-shr}
use Rattle.std.proofs.lemmas.Bool.{cases_Bool, cases_eq, cases_order, and_parts, and_from, leb-true, le-leb, eq-eqb, ne_eqb, cond_both}
use Rattle.std.proofs.lemmas.Bool.Decides.{nat_tests}
use Rattle.lines.specs.declared.sets.ClassSet.{ClassSet}
use Rattle.lines.specs.Sets.{has_class}
use Rattle.lines.proofs.Bits.{class_parts, has_union, has_none}
use Rattle.script.specs.Numbers.{value_behind}
use Rattle.script.specs.Pieces.{pieces}
use Rattle.script.specs.Sets.{no_classes, single, run, from_one, class_of, ends_of, ends_between, item_ends, range_of, both, union_from, items_of, set_of, between_ends, named, Named}
use Rattle.script.proofs.Runs.{union_none}
use Rattle.classes.proofs.Clash.{clash}

-- the one bit of a power of two
own_bit : (k : ℕ) → 2 ^ k / 2 ^ k % 2 ≡ 1
own_bit k = ap (λ n. n / 2 ^ k % 2) (sym (one-mul (2 ^ k))) ∙ ap (λ n. n % 2) (shl-shr 1 k)

higher_bit : (j k : ℕ) → j < k → 2 ^ j / 2 ^ k % 2 ≡ 0
higher_bit j k lt =
    let none : 2 ^ j / 2 ^ k ≡ 0 = omega (arith, div_below (2 ^ j) (2 ^ k) 1 (pow_pos k) (omega (arith, pow-lt lt, one-mul (2 ^ k)))) in
    ap (λ n. n % 2) none

lower_bit : (j k : ℕ) → k < j → 2 ^ j / 2 ^ k % 2 ≡ 0
lower_bit j k lt =
    let half : ℕ = 2 ^ (j - k - 1) in
    let apart : j ≡ (j - k - 1 + 1) + k = omega arith in
    let even : half * 2 ≡ half * 2 + 0 = omega arith in
    ap (λ n. 2 ^ n / 2 ^ k % 2) apart ∙ ap (λ n. n / 2 ^ k % 2) (pow-add 2 (j - k - 1 + 1) k) ∙ ap (λ n. n % 2) (shl-shr (2 ^ (j - k - 1 + 1)) k ∙ pow-add 2 (j - k - 1) 1 ∙ even) ∙ mod-mul-add half 2 0 (omega arith)

module _ (k c : ℕ) (low : 1 ≤ k) (high : k ≤ 64) where
  other_class : (c ≡ k → ⊥) → has_class (single k) c ≡ true → ⊥
  other_class other has =
      let parts = class_parts (single k) c has in
      ⊎_elim other (λ apart. ⊎_elim (λ lt. let z = lower_bit (k - 1) (c - 1) (omega (arith, parts.0)) in omega (arith, z, parts.2)) (λ lt. let z = higher_bit (k - 1) (c - 1) (omega arith) in omega (arith, z, parts.2)) apart) (cases_order c k)

  own_class : c ≡ k → has_class (single k) c ≡ true
  own_class e =
      let bit : 2 ^ (k - 1) / 2 ^ (c - 1) % 2 ≡ 1 = ap (λ n. 2 ^ (k - 1) / 2 ^ (n - 1) % 2) e ∙ own_bit (k - 1) in
      and_from _ _ (and_from _ _ (le-leb 1 c (omega arith)) (le-leb c 64 (omega arith))) (eq-eqb _ 1 bit)

  has_single : has_class (single k) c ≡ eqb c k
  has_single =
      ⊎_elim
      (λ e. own_class e ∙ sym (eq-eqb c k e))
      (λ ne. ⊎_elim (λ has. absurd (other_class ne has)) (λ lacks. lacks ∙ sym (ne_eqb c k ne)) (cases_Bool (has_class (single k) c)))
      (cases_eq c k)

has_run : (low n c : ℕ) → 1 ≤ low → low + n ≤ 65 → has_class (run low n) c ≡ (leb low c && ltb c (low + n))
has_run low zero c one few = has_none (run low zero) c refl ∙ grind (arith, nat_tests)
has_run low (suc n) c one few =
    let last : (leb low c && ltb c (low + n) || eqb c (low + n)) ≡ (leb low c && ltb c (low + suc n)) = grind (arith, nat_tests) in
    has_union (run low n) (single (low + n)) c ∙ ap (λ b. b || has_class (single (low + n)) c) (has_run low n c one (omega arith)) ∙ ap (λ b. leb low c && ltb c (low + n) || b) (has_single (low + n) c (omega arith) (omega arith)) ∙ last

-- a class that was read is from 1 to 64
abbrev ClassRead : Option ℕ → Type 0
ClassRead None = Unit {0}
ClassRead (Some n) = (1 ≤ n) × (n ≤ 64)

class_read : (w : List ℕ) → ClassRead (class_of w)
class_read w =
    let from_digits : (n : ℕ) → n ≤ 64 → ClassRead (from_one (Some n)) = λ n le. cond_both (leb 1 n) (Some n) None ClassRead (λ e. (leb-true 1 n e, le)) (λ e. tt) in
    cond_both _ (Some (value_behind 0 w)) None (λ o. ClassRead (from_one o)) (λ e. from_digits (value_behind 0 w) (leb-true (value_behind 0 w) 64 (and_parts _ _ e).1)) (λ e. tt)

-- the ends of a range that was read
abbrev EndsRead : Option (ℕ × ℕ) → Type 0
EndsRead None = Unit {0}
EndsRead (Some p) = (1 ≤ p.0) × (p.0 ≤ p.1) × (p.1 ≤ 64)

ends_read : (l h : Option ℕ) → ClassRead l → ClassRead h → EndsRead (ends_of l h)
ends_read None h a b = tt
ends_read (Some l) None a b = tt
ends_read (Some l) (Some h) a b = cond_both (leb l h) (Some (l, h)) None EndsRead (λ e. (a.0, leb-true l h e, b.1)) (λ e. tt)

pieces_read : (ps : List (List ℕ)) → EndsRead (ends_between ps)
pieces_read [] = tt
pieces_read (a ∷ []) = ends_read (class_of a) (class_of a) (class_read a) (class_read a)
pieces_read (a ∷ b ∷ []) = ends_read (class_of a) (class_of b) (class_read a) (class_read b)
pieces_read (a ∷ b ∷ c ∷ ds) = tt

has_between : (p : ℕ × ℕ) (c : ℕ) → EndsRead (Some p) → has_class (run p.0 (p.1 + 1 - p.0)) c ≡ between_ends (Some p) c
has_between p c read =
    let same : (leb p.0 c && ltb c (p.0 + (p.1 + 1 - p.0))) ≡ (leb p.0 c && leb c p.1) = grind (arith, nat_tests) in
    has_run p.0 (p.1 + 1 - p.0) c read.0 (omega arith) ∙ same

-- one item more
item_more : (ps : List (List ℕ)) (s t : ClassSet) (c : ℕ) (o : Option (ℕ × ℕ)) → EndsRead o → ((u : ClassSet) → union_from (Some u) ps ≡ Some t → has_class t c ≡ (has_class u c || named ps c)) → union_from (both (Some s) (range_of o)) ps ≡ Some t → has_class t c ≡ (has_class s c || (between_ends o c || named ps c))
item_more ps s t c None read rest e = clash (cc (union_none ps))
item_more ps s t c (Some p) read rest e =
    rest _ e ∙ ap (λ b. b || named ps c) (has_union s (run p.0 (p.1 + 1 - p.0)) c ∙ ap (λ b. has_class s c || b) (has_between p c read)) ∙ or_assoc (has_class s c) (between_ends (Some p) c) (named ps c)

union_named : (ps : List (List ℕ)) (s t : ClassSet) (c : ℕ) → union_from (Some s) ps ≡ Some t → has_class t c ≡ (has_class s c || named ps c)
union_named [] s t c e =
    let same : t ≡ s = cc in
    ap (λ u. has_class u c) same ∙ sym (or-false (has_class s c))
union_named (p ∷ ps) s t c e = item_more ps s t c (item_ends p) (pieces_read (pieces 45 p)) (λ u. union_named ps u t c) e

pub set_named : (w : List ℕ) (r : Option ClassSet) → r ≡ set_of w → IfSome r (Named w)
set_named w None e = tt
set_named w (Some s) e = λ c. union_named (items_of w) no_classes s c (sym e) ∙ ap (λ b. b || named (items_of w) c) (has_none no_classes c refl)
