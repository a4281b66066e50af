-- A table of which only the first places are kept, one place more at a time.
use Rattle.std.proofs.Common.{◌≡◌, ℕ, zero, suc, ◌+◌, ◌<◌, ◌≤◌, List, [], ◌∷◌, map, length, get_or, set, replicate, refl, ap, ◌∙◌, arith}

abbrev pub kept : {A : Type 0} → (A → A) → A → ℕ → List A → List A
kept keep none k [] = []
kept keep none zero (x ∷ xs) = none ∷ kept keep none zero xs
kept keep none (suc k) (x ∷ xs) = keep x ∷ kept keep none k xs

module _ {A : Type 0} (keep : A → A) (none : A) where
  pub kept_none : (xs : List A) → kept keep none 0 xs ≡ replicate (length xs) none
  kept_none [] = refl
  kept_none (x ∷ xs) = ap (λ ys. none ∷ ys) (kept_none xs)

  pub kept_all : (k : ℕ) (xs : List A) → length xs ≤ k → kept keep none k xs ≡ map keep xs
  kept_all k [] fits = refl
  kept_all zero (x ∷ xs) fits = absurd (omega arith)
  kept_all (suc k) (x ∷ xs) fits = ap (λ ys. keep x ∷ ys) (kept_all k xs (omega arith))

  set_next : (k : ℕ) (xs : List A) (d : A) → k < length xs → set (kept keep none k xs) k (keep (get_or xs k d)) ≡ kept keep none (suc k) xs
  set_next k [] d within = absurd (omega arith)
  set_next zero (x ∷ xs) d within = refl
  set_next (suc k) (x ∷ xs) d within = ap (λ ys. keep x ∷ ys) (set_next k xs d (omega arith))

  -- the next place is filled
  pub kept_set : (k : ℕ) (xs : List A) (d : A) → k < length xs → set (kept keep none k xs) k (keep (get_or xs k d)) ≡ kept keep none (k + 1) xs
  kept_set k xs d within = set_next k xs d within ∙ ap (λ n. kept keep none n xs) (omega arith)

  skip_next : (k : ℕ) (xs : List A) (d : A) → keep (get_or xs k d) ≡ none → k < length xs → kept keep none (suc k) xs ≡ kept keep none k xs
  skip_next k [] d empty within = absurd (omega arith)
  skip_next zero (x ∷ xs) d empty within = ap (λ y. y ∷ kept keep none zero xs) empty
  skip_next (suc k) (x ∷ xs) d empty within = ap (λ ys. keep x ∷ ys) (skip_next k xs d empty (omega arith))

  -- or has nothing to fill it
  pub kept_skip : (k : ℕ) (xs : List A) (d : A) → keep (get_or xs k d) ≡ none → k < length xs → kept keep none (k + 1) xs ≡ kept keep none k xs
  kept_skip k xs d empty within = ap (λ n. kept keep none n xs) (omega arith) ∙ skip_next k xs d empty within

  pub kept_low : (k j : ℕ) (xs : List A) (d : A) → j < k → j < length xs → get_or (kept keep none k xs) j d ≡ keep (get_or xs j d)
  kept_low k j [] d below within = absurd (omega arith)
  kept_low zero j (x ∷ xs) d below within = absurd (omega arith)
  kept_low (suc k) zero (x ∷ xs) d below within = refl
  kept_low (suc k) (suc j) (x ∷ xs) d below within = kept_low k j xs d (omega arith) (omega arith)

  pub kept_high : (k j : ℕ) (xs : List A) → k ≤ j → get_or (kept keep none k xs) j none ≡ none
  kept_high k j [] above = refl
  kept_high zero zero (x ∷ xs) above = refl
  kept_high zero (suc j) (x ∷ xs) above = kept_high zero j xs (omega arith)
  kept_high (suc k) zero (x ∷ xs) above = absurd (omega arith)
  kept_high (suc k) (suc j) (x ∷ xs) above = kept_high k j xs (omega arith)

  pub length_kept : (k : ℕ) (xs : List A) → length (kept keep none k xs) ≡ length xs
  length_kept k [] = refl
  length_kept zero (x ∷ xs) = ap suc (length_kept zero xs)
  length_kept (suc k) (x ∷ xs) = ap suc (length_kept k xs)
