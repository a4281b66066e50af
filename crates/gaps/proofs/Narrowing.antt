-- A loop over the states of a table that changes each.
use Rattle.std.proofs.Common.{◌≡◌, ℕ, ◌+◌, ◌<◌, ◌≤◌, List, ◌++◌, map, length, get_or, take, drop, set, ap, ◌∙◌, arith}
use Rattle.std.proofs.lemmas.List.Edits.{map_over_more}
use Rattle.std.proofs.lemmas.List.{append-nil, drop_all, get_or_default, take_all}

-- what f makes of the states passed, and the rest as they were
module _ {A : Type 0} (f : A → A) (xs ys : List A) (i : ℕ) (so_far : ys ≡ map f (take i xs) ++ drop i xs) where
  pub changed_more : (d y : A) → length ys ≡ length xs → i < length xs → y ≡ f (get_or ys i d) → set ys i y ≡ map f (take (i + 1) xs) ++ drop (i + 1) xs
  changed_more d y long within e =
      let x : A = get_or ys i d in
      let inside : i < length ys = omega (arith, long, within) in
      ap (set ys i) e ∙ map_over_more f xs ys i x within so_far (get_or_default ys i d x inside)
