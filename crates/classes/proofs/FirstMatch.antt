-- One entry of a list after another.
use Rattle.std.proofs.Common.{◌≡◌, ℕ, zero, suc, ◌<◌, ◌≤◌, Bool, true, false, ◌&&◌, leb, List, [], ◌∷◌, length, get_or, drop, Some, None, Option, sym, ap, refl, ◌∙◌, ⊎_elim, arith}
use Rattle.std.proofs.lemmas.Bool.{both_ways, and_parts, and_from, cases_Bool, leb-true, le-leb}
use Rattle.std.proofs.lemmas.Bool.Decides.{nat_tests}
use Rattle.classes.specs.Determinants.{class_given, class_number}
use Rattle.classes.specs.Entries.{usable, first_class, Applies, FirstApplies}
use Rattle.classes.proofs.Steps.{drop_read}

-- a class that is given, and none
pub some_given : (class n : ℕ) → 1 ≤ class → class ≡ n → Some class ≡ class_given n
some_given class n low e = grind (arith, nat_tests)

pub none_given : (n : ℕ) → 0 ≡ n → None ≡ class_given n
none_given n e = rw (sym e) refl

-- the class of what is given
number_given : (n : ℕ) → class_number (class_given n) ≡ n
number_given n = grind (arith, nat_tests)

module _ {E : Type 0} (given : E → ℕ) (covers : E → Bool) (count : ℕ) where
  applies : (e : E) → (usable count (given e) && covers e) ≡ true → Applies given covers count e
  applies e h =
      let both = and_parts (usable count (given e)) (covers e) h in
      let range = and_parts (leb 1 (given e)) (leb (given e) count) both.0 in
      record { low = leb-true 1 (given e) range.0; high = leb-true (given e) count range.1; covering = both.1 }

  module _ (es : List E) (i : ℕ) (e : E) (within : i < length es) (read : e ≡ get_or es i e) where
    -- the entry at i decides
    pub first_class_here : true ≡ (usable count (given e) && covers e) → given e ≡ first_class given covers count (drop i es)
    first_class_here h = rw (drop_read es i e within read) (rw (sym h) refl)

    pub first_class_low : true ≡ (usable count (given e) && covers e) → 1 ≤ given e
    first_class_low h = (applies e (sym h)).low

  tested : (e : E) → Applies given covers count e → (usable count (given e) && covers e) ≡ true
  tested e h = and_from _ _ (and_from _ _ (le-leb 1 (given e) h.low) (le-leb (given e) count h.high)) h.covering

  module _ (e : E) (es : List E) where
    -- the first entry applies
    here : (usable count (given e) && covers e) ≡ true → FirstApplies given covers count (e ∷ es) (given e)
    here h = record {
      none = λ zero. absurd (omega (arith, (applies e h).low, zero));
      some = λ _. (0, omega arith, λ d. (applies e h, refl, λ j lt. absurd (omega (arith, lt))));
    }

    -- it does not, so that the others decide
    there : (class : ℕ) → (usable count (given e) && covers e) ≡ false → FirstApplies given covers count es class → FirstApplies given covers count (e ∷ es) class
    there class h rest = record { none = none; some = some }
      where
        passed : Applies given covers count e → ⊥
        passed a = both_ways _ h (tested e a)

        none : class ≡ 0 → (i : ℕ) (d : E) → i < length (e ∷ es) → Applies given covers count (get_or (e ∷ es) i d) → ⊥
        none z zero d lt = passed
        none z (suc i) d lt = rest.none z i d (omega arith)

        before : (d : E) (i : ℕ) → ((j : ℕ) → j < i → Applies given covers count (get_or es j d) → ⊥) → (j : ℕ) → j < suc i → Applies given covers count (get_or (e ∷ es) j d) → ⊥
        before d i f zero lt = passed
        before d i f (suc j) lt = f j (omega arith)

        some : 0 < class → (i : ℕ) × (i < length (e ∷ es)) × ((d : E) → Applies given covers count (get_or (e ∷ es) i d) × (class ≡ given (get_or (e ∷ es) i d)) × ((j : ℕ) → j < i → Applies given covers count (get_or (e ∷ es) j d) → ⊥))
        some lt =
            let found = rest.some lt in
            (suc found.0, omega (arith, found.1), λ d. ((found.2 d).0, (found.2 d).1, before d found.0 (found.2 d).2))

  -- the class is that of the first entry that applies
  pub first_applies : (es : List E) → FirstApplies given covers count es (first_class given covers count es)
  first_applies [] = record { none = λ _ i d lt. absurd (omega arith); some = λ lt. absurd (omega arith) }
  first_applies (e ∷ es) =
      ⊎_elim
      (λ h. rw h (here e es h))
      (λ h. rw h (there e es (first_class given covers count es) h (first_applies es)))
      (cases_Bool (usable count (given e) && covers e))

  pub first_applies_at : (es : List E) (class : ℕ) → class ≡ first_class given covers count es → FirstApplies given covers count es class
  first_applies_at es class e = rw e (first_applies es)

  -- and so is the class of an answer
  pub first_applies_given : (es : List E) (answer : Option ℕ) → answer ≡ class_given (first_class given covers count es) → FirstApplies given covers count es (class_number answer)
  first_applies_given es answer e = first_applies_at es (class_number answer) (ap class_number e ∙ number_given (first_class given covers count es))
