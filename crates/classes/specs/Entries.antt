-- A list of entries is read from the front: the first one that covers what is asked gives the class.
use Rattle.std.specs.Prelude.{◌≡◌, ℕ, ◌<◌, ◌≤◌, Bool, true, cond, ◌&&◌, List, [], ◌∷◌, length, nat_le, slice_index_or}
use Rattle.std.proofs.Common.{arith}
use Rattle.std.proofs.lemmas.Bool.{and_parts, cond_both, leb-true}
use Rattle.classes.specs.declared.usage.Usage.{Usage}
use Rattle.classes.specs.Determinants.{Meaning}

-- an entry of class 0, or of a class above the count, is passed over
abbrev pub usable : ℕ → ℕ → Bool
usable count class = nat_le 1 class && nat_le class count

-- the class of the first usable entry that covers, or 0
abbrev pub first_class : {E : Type 0} → (E → ℕ) → (E → Bool) → ℕ → List E → ℕ
first_class given covers count [] = 0
first_class given covers count (e ∷ es) = cond (usable count (given e) && covers e) (given e) (first_class given covers count es)

module _ {E : Type 0} (given : E → ℕ) (covers : E → Bool) (count : ℕ) where
  -- the entry's class is from 1 to the count, and it covers what is asked
  pub record Applies (e : E) : Type 0 where
    pub low : 1 ≤ given e
    pub high : given e ≤ count
    pub covering : covers e ≡ true

  -- what the class means: 0 where no entry applies, else that of an entry that applies, and none before it does
  pub record FirstApplies (es : List E) (class : ℕ) : Type 0 where
    pub none : class ≡ 0 → (i : ℕ) (d : E) → i < length es → Applies (slice_index_or es i d) → ⊥
    pub some : 0 < class → (i : ℕ) × (i < length es) × ((d : E) → Applies (slice_index_or es i d) × (class ≡ given (slice_index_or es i d)) × ((j : ℕ) → j < i → Applies (slice_index_or es j d) → ⊥))

usable_le : (count class : ℕ) (covers : Bool) → (usable count class && covers) ≡ true → class ≤ count
usable_le count class covers h =
    leb-true class count (and_parts (nat_le 1 class) (nat_le class count) (and_parts (usable count class) covers h).0).1

-- no class passes the count
pub first_class_le : {E : Type 0} (given : E → ℕ) (covers : E → Bool) (count : ℕ) (es : List E) → first_class given covers count es ≤ count
first_class_le given covers count [] = omega arith
first_class_le given covers count (e ∷ es) =
    cond_both (usable count (given e) && covers e) (given e) (first_class given covers count es) (λ n. n ≤ count) (usable_le count (given e) (covers e)) (λ _. first_class_le given covers count es)

-- what a count and a list of entries mean
abbrev pub by_entries : {E : Type 0} → (E → ℕ) → (E → Usage → Bool) → ℕ → List E → Meaning
by_entries given covers count es = record {
  count = count;
  class = λ u. first_class given (λ e. covers e u) count es;
  within = λ u. first_class_le given (λ e. covers e u) count es;
}
