-- Class sets, one class or one item after another.
use Rattle.std.proofs.Common.{◌≡◌, ℕ, suc, ◌+◌, ◌-◌, ◌<◌, ◌≤◌, true, false, List, [], ◌∷◌, length, get_or, drop, Some, None, Option, Bool, not, true≢false, sym, refl, ap, ◌∙◌, Bor, arith}
use Rattle.std.specs.Bool.{then_some}
use Rattle.std.specs.Option.{MatchOption, unwrap_or, is_some}
use Rattle.std.proofs.lemmas.List.{at_drop_more}
use Rattle.std.specs.Str.{bytes_eq}
use Rattle.lines.specs.declared.sets.ClassSet.{ClassSet}
use Rattle.lines.specs.Sets.{union}
use Rattle.script.specs.Pieces.{pieces}
use Rattle.script.specs.Sets.{no_classes, single, run, class_of, ends_of, ends_between, range_of, item_of, both, union_from, set_of}
use Rattle.classes.proofs.Clash.{clash}

-- a class more
pub run_more : (low class : ℕ) → low ≤ class → run low (class + 1 - low) ≡ union (run low (class - low)) (single class)
run_more low class le =
    let longer : class + 1 - low ≡ suc (class - low) = omega arith in
    let last : low + (class - low) ≡ class = omega arith in
    rw longer (ap (λ c. union (run low (class - low)) (single c)) last)

-- once an item cannot be read, nothing can
pub union_none : (ps : List (List ℕ)) → None ≡ union_from None ps
union_none [] = refl
union_none (p ∷ ps) = union_none ps

-- one item more, of those that are left
module _ (ps : List (List ℕ)) (n : ℕ) (w : List ℕ) (s : ClassSet) (next : (n < length ps) × (w ≡ get_or ps n w)) where
  item_next : union_from (Some s) (drop n ps) ≡ union_from (both (Some s) (item_of w)) (drop (n + 1) ps)
  item_next = at_drop_more (union_from (Some s)) ps n w next.0 ∙ ap (λ p. union_from (both (Some s) (item_of p)) (drop (n + 1) ps)) (sym next.1)

  pub union_more : (t : ClassSet) → Some t ≡ item_of w → union_from (Some (union s t)) (drop (n + 1) ps) ≡ union_from (Some s) (drop n ps)
  union_more t is = ap (λ o. union_from (both (Some s) o) (drop (n + 1) ps)) is ∙ sym item_next

  pub union_stops : None ≡ item_of w → None ≡ union_from (Some s) (drop n ps)
  union_stops none = union_none (drop (n + 1) ps) ∙ ap (λ o. union_from (both (Some s) o) (drop (n + 1) ps)) none ∙ sym item_next

-- a word other than "-"
pub set_is : (w : List ℕ) → false ≡ bytes_eq w (45 ∷ []) → union_from (Some no_classes) (pieces 44 w) ≡ set_of w
set_is w other = rw (sym other) refl

-- the word "-"
pub empty_is : (w : List ℕ) → true ≡ bytes_eq w (45 ∷ []) → Some no_classes ≡ set_of w
empty_is w is = rw (sym is) refl

-- an end that cannot be read
pub last_unread : (o : Option ℕ) → None ≡ range_of (ends_of o None)
last_unread None = refl
last_unread (Some n) = refl

-- the ends of an item, by the pieces that three calls of `next` gave
module _ (ps : List (List ℕ)) (a : Bor (List ℕ)) (second third : Option (Bor (List ℕ))) where
  -- what the three calls say of the pieces
  abbrev pub Cut : Type 0
  Cut = (ps ≡ a.now ∷ drop 1 ps) × MatchOption second (drop 1 ps ≡ []) (λ x. drop 1 ps ≡ x.now ∷ drop 1 (drop 1 ps)) × MatchOption third (drop 1 (drop 1 ps) ≡ []) (λ x. drop 1 (drop 1 ps) ≡ x.now ∷ drop 1 (drop 1 (drop 1 ps)))

two_ends : (ps : List (List ℕ)) (a : Bor (List ℕ)) (second third : Option (Bor (List ℕ))) → Cut ps a second third → third ≡ None → ends_between ps ≡ ends_of (class_of a.now) (class_of (unwrap_or second a).now)
two_ends ps a None None (one, two, three) none =
    ap ends_between (one ∙ ap (λ r. a.now ∷ r) two)
two_ends ps a (Some x) None (one, two, three) none =
    ap ends_between (one ∙ ap (λ r. a.now ∷ r) (two ∙ ap (λ r. x.now ∷ r) three))
two_ends ps a second (Some z) cut none = clash cc

three_ends : (ps : List (List ℕ)) (a z : Bor (List ℕ)) (second : Option (Bor (List ℕ))) → Cut ps a second (Some z) → ends_between ps ≡ None
three_ends ps a z None (one, two, three) =
    let none : [] ≡ z.now ∷ drop 1 (drop 1 (drop 1 ps)) = sym (ap (drop 1) two) ∙ three in
    let few : 0 ≡ suc (length (drop 1 (drop 1 (drop 1 ps)))) = ap length none in
    absurd (omega arith)
three_ends ps a z (Some x) (one, two, three) =
    ap ends_between (one ∙ ap (λ r. a.now ∷ r) (two ∙ ap (λ r. x.now ∷ r) three))

-- the ends are those of the first and the last piece, if there is no third
pub ends_told : (ps : List (List ℕ)) (a : Bor (List ℕ)) (second third : Option (Bor (List ℕ))) (alone : Bool) (r : Option (Bor (List ℕ) × Option (Bor (List ℕ)))) → Cut ps a second third → is_some third ≡ not alone → r ≡ then_some alone (a, second)
    → MatchOption r (ends_between ps ≡ None) (λ p. ends_between ps ≡ ends_of (class_of p.0.now) (class_of (unwrap_or p.1 p.0).now))
ends_told ps a second None true r cut none gives = rw gives (two_ends ps a second None cut refl)
ends_told ps a second None false r cut none gives = absurd (true≢false (sym none))
ends_told ps a second (Some z) true r cut none gives = absurd (true≢false none)
ends_told ps a second (Some z) false r cut none gives = rw gives (three_ends ps a z second cut)
