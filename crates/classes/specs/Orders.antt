-- The laws of the orders of keys: of byte strings, where the first byte that differs decides, and of charge objects.
use Rattle.std.specs.Prelude.{◌≡◌, ℕ, ◌<◌, Bool, true, false, List, [], ◌∷◌, Some, None, ◌==◌, nat_le, refl}
use Rattle.std.proofs.Common.{sym, ap, ◌∙◌, ⊎_elim, le_of_lt, le_antisymm, le_trans, arith}
use Rattle.std.proofs.lemmas.Bool.{cases_order, cases_Bool, eq-eqb, ne_eqb, lt-ltb, le-ltb, le-leb, leb-true, leb-false, true≢false, false≢true}
use Rattle.std.specs.Option.{unwrap_or}
use Rattle.classes.specs.declared.keys.ObjectKey.{ObjectKey}
use Rattle.classes.specs.Keys.{byte_before, bytes_upto, object_upto}

-- two bytes are the same, or one comes before the other
pub before_same : (x y : ℕ) → x ≡ y → byte_before x y ≡ None
before_same x y e = rw (eq-eqb x y e) refl

pub before_less : (x y : ℕ) → x < y → byte_before x y ≡ Some true
before_less x y h = rw (ne_eqb x y (λ e. omega (arith, h, e)), lt-ltb x y h) refl

pub before_more : (x y : ℕ) → y < x → byte_before x y ≡ Some false
before_more x y h = rw (ne_eqb x y (λ e. omega (arith, h, e)), le-ltb x y (omega (arith, h))) refl

-- so one byte of each string decides, or the rest does
total_step : (x y : ℕ) (p q : Bool) → (p ≡ false → q ≡ true) → unwrap_or (byte_before x y) p ≡ false → unwrap_or (byte_before y x) q ≡ true
total_step x y p q f h =
    ⊎_elim
    (λ e. rw (before_same y x (sym e)) (f (rw (before_same x y e) at h)))
    (⊎_elim
    (λ lt. absurd (true≢false (rw (before_less x y lt) at h)))
    (λ gt. rw (before_less y x gt) refl))
    (cases_order x y)

same_step : (x y : ℕ) (p q : Bool) → unwrap_or (byte_before x y) p ≡ true → unwrap_or (byte_before y x) q ≡ true → (x ≡ y) × (p ≡ true) × (q ≡ true)
same_step x y p q h k =
    ⊎_elim
    (λ e. (e, (rw (before_same x y e) at h), (rw (before_same y x (sym e)) at k)))
    (⊎_elim
    (λ lt. absurd (false≢true (rw (before_more y x lt) at k)))
    (λ gt. absurd (false≢true (rw (before_more x y gt) at h))))
    (cases_order x y)

carries_step : (x y z : ℕ) (p q r : Bool) → (p ≡ true → q ≡ true → r ≡ true) → unwrap_or (byte_before x y) p ≡ true → unwrap_or (byte_before y z) q ≡ true → unwrap_or (byte_before x z) r ≡ true
carries_step x y z p q r f h k =
    ⊎_elim
    (λ e. ⊎_elim
    (λ d. rw (before_same x z (omega (arith, e, d))) (f (rw (before_same x y e) at h) (rw (before_same y z d) at k)))
    (⊎_elim
    (λ lt. rw (before_less x z (omega (arith, e, lt))) refl)
    (λ gt. absurd (false≢true (rw (before_more y z gt) at k))))
    (cases_order y z))
    (⊎_elim
    (λ less. ⊎_elim
    (λ d. rw (before_less x z (omega (arith, less, d))) refl)
    (⊎_elim
    (λ lt. rw (before_less x z (omega (arith, less, lt))) refl)
    (λ gt. absurd (false≢true (rw (before_more y z gt) at k))))
    (cases_order y z))
    (λ gt. absurd (false≢true (rw (before_more x y gt) at h))))
    (cases_order x y)

-- of two strings one is not after the other
pub bytes_total : (xs ys : List ℕ) → bytes_upto xs ys ≡ false → bytes_upto ys xs ≡ true
bytes_total [] ys h = absurd (true≢false h)
bytes_total (x ∷ xs) [] h = refl
bytes_total (x ∷ xs) (y ∷ ys) h = total_step x y (bytes_upto xs ys) (bytes_upto ys xs) (bytes_total xs ys) h

-- two strings, neither after the other, are the same
pub bytes_same : (xs ys : List ℕ) → bytes_upto xs ys ≡ true → bytes_upto ys xs ≡ true → xs ≡ ys
bytes_same [] [] h k = refl
bytes_same [] (y ∷ ys) h k = absurd (false≢true k)
bytes_same (x ∷ xs) [] h k = absurd (false≢true h)
bytes_same (x ∷ xs) (y ∷ ys) h k =
    let step = same_step x y (bytes_upto xs ys) (bytes_upto ys xs) h k in
    let rest = bytes_same xs ys step.1 step.2 in
    cc (step.0, rest)

-- "not after" carries through a third string
pub bytes_carries : (xs ys zs : List ℕ) → bytes_upto xs ys ≡ true → bytes_upto ys zs ≡ true → bytes_upto xs zs ≡ true
bytes_carries [] ys zs h k = refl
bytes_carries (x ∷ xs) [] zs h k = absurd (false≢true h)
bytes_carries (x ∷ xs) (y ∷ ys) [] h k = absurd (false≢true k)
bytes_carries (x ∷ xs) (y ∷ ys) (z ∷ zs) h k = carries_step x y z (bytes_upto xs ys) (bytes_upto ys zs) (bytes_upto xs zs) (bytes_carries xs ys zs) h k

-- the partitions decide where they differ, as two bytes do, and then the objects
object_step : (a b : ObjectKey) → object_upto a b ≡ unwrap_or (byte_before a.partition b.partition) (nat_le a.object b.object)
object_step a b = ⊎_elim (λ e. rw e refl) (λ e. rw e refl) (cases_Bool (a.partition == b.partition))

-- of two charge objects one is not after the other
pub object_total : (a b : ObjectKey) → object_upto a b ≡ false → object_upto b a ≡ true
object_total a b h =
    let objects : nat_le a.object b.object ≡ false → nat_le b.object a.object ≡ true = λ more. le-leb _ _ (le_of_lt (leb-false _ _ more)) in
    object_step b a ∙ total_step a.partition b.partition (nat_le a.object b.object) (nat_le b.object a.object) objects (sym (object_step a b) ∙ h)

-- two charge objects, neither after the other, are the same
pub object_same : (a b : ObjectKey) → object_upto a b ≡ true → object_upto b a ≡ true → a ≡ b
object_same a b h k =
    let key : ℕ → ℕ → ObjectKey = λ partition object. record { partition = partition; object = object } in
    let step = same_step a.partition b.partition (nat_le a.object b.object) (nat_le b.object a.object) (sym (object_step a b) ∙ h) (sym (object_step b a) ∙ k) in
    let objects = le_antisymm (leb-true _ _ step.1) (leb-true _ _ step.2) in
    ap (λ partition. key partition a.object) step.0 ∙ ap (key b.partition) objects

-- "not after" carries through a third charge object
pub object_carries : (a b c : ObjectKey) → object_upto a b ≡ true → object_upto b c ≡ true → object_upto a c ≡ true
object_carries a b c h k =
    let objects : nat_le a.object b.object ≡ true → nat_le b.object c.object ≡ true → nat_le a.object c.object ≡ true = λ x y. le-leb _ _ (le_trans (leb-true _ _ x) (leb-true _ _ y)) in
    object_step a c ∙ carries_step a.partition b.partition c.partition (nat_le a.object b.object) (nat_le b.object c.object) (nat_le a.object c.object) objects (sym (object_step a b) ∙ h) (sym (object_step b c) ∙ k)
