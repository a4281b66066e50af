-- The pieces of a text, as the library's `split` gives them.
use Rattle.std.proofs.Common.{◌≡◌, Bool, false, List, [], ◌∷◌, drop, Some, None, Option, sym, refl, ap, subst, Bor}
use denote.Param.Members.{Mut}
use Rattle.std.specs.Fn.{CalledAt}
use Rattle.std.specs.Iterator.Runs.{EachRunFrom}
use Rattle.std.specs.List.{slice_split}
use Rattle.std.specs.Option.{MatchOption}
use Rattle.std.specs.Slice.Iter.{split_steps, split_rest, split_done, split_callee}
use Rattle.std.proofs.lemmas.Iterator.{YieldsList}
use Rattle.std.proofs.lemmas.Iterator.Splits.{YieldsList-from_slice_split}

module _ {A F : Type 0} {g : Mut F (Bor A × Unit {0}) Bool} where
  -- the library's lemma, with the call's clause `runs` first, which says which closure is meant
  pub cut_at : {s : _} {f : F} {Q : _} (test : A → Bool) (xs : List A) → EachRunFrom (split_steps g) s Q → split_rest s ≡ xs → split_done s ≡ false → split_callee s ≡ f
      → ((x : A) (b : Bool) (q : F) → CalledAt g f x b q → (q ≡ f) × (b ≡ test x)) → YieldsList (split_steps g) (λ x. x.now) s (slice_split test xs)
  cut_at test xs runs rest done closure tests = YieldsList-from_slice_split g test xs rest done closure tests

  -- a call of `next` gives the first of the pieces that are left, if there is one, and leaves the others
  pub piece_told : {s : _} (u : _) (all : List (List A)) (r : Option (Bor (List A))) → YieldsList (split_steps g) (λ x. x.now) s all → split_steps g s r u → MatchOption r (all ≡ []) (λ x. all ≡ x.now ∷ drop 1 all) × YieldsList (split_steps g) (λ x. x.now) u (drop 1 all)
  piece_told u [] None e k = (refl, subst (λ t. YieldsList (split_steps g) (λ x. x.now) t []) (sym k.1) e)
  piece_told u (y ∷ ys) None e k = absurd (e.runs.0 u k)
  piece_told u [] (Some x) e k = absurd (e.runs x u k)
  piece_told u (y ∷ ys) (Some x) e k =
      let told = e.runs.1 x u k in
      (ap (λ w. w ∷ ys) (sym told.0), record { runs = told.1 })
