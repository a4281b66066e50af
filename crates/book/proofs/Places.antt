-- What stands at a number after one place was written, and in a new book.
use Rattle.std.proofs.Common.{◌≡◌, ℕ, ◌-◌, ◌<◌, ◌≤◌, true, cond, ◌&&◌, eqb, leb, ◌≢◌, List, length, get_or, set, replicate, refl, ⊎_elim, arith}
use Rattle.std.proofs.lemmas.List.{get_or-set_same, get_or-set_other, get_or-replicate, get_or_past, length-replicate}
use Rattle.std.proofs.lemmas.Bool.{and_parts, cases_eq, cases_lt, eq-eqb, ne_eqb, leb-true}

-- what stands at a number, counted from 1, or a value that stands for nothing
abbrev pub at_number : {A : Type 0} → A → List A → ℕ → A
at_number none xs n = cond (eqb n 0) none (get_or xs (n - 1) none)

module _ {A : Type 0} (none : A) where
  pub written_here : (xs : List A) (n : ℕ) (x : A) → 1 ≤ n → n ≤ length xs → at_number none (set xs (n - 1) x) n ≡ x
  written_here xs n x low high =
      let ne : n ≡ 0 → ⊥ = λ e. omega arith in
      let within : n - 1 < length xs = omega arith in
      rw (ne_eqb n 0 ne) (get_or-set_same xs (n - 1) x none within)

  pub written_elsewhere : (xs : List A) (n m : ℕ) (x : A) → 1 ≤ n → m ≢ n → at_number none (set xs (n - 1) x) m ≡ at_number none xs m
  written_elsewhere xs n m x low apart =
      ⊎_elim
      (λ e. rw (eq-eqb m 0 e) refl)
      (λ ne. let other : m - 1 ≢ n - 1 = λ same. apart (omega arith) in rw (ne_eqb m 0 ne) (get_or-set_other xs (n - 1) (m - 1) x none other))
      (cases_eq m 0)

  -- nothing stands in an empty table
  pub empty_number : (size n : ℕ) → at_number none (replicate size none) n ≡ none
  empty_number size n =
      ⊎_elim
      (λ e. rw (eq-eqb n 0 e) refl)
      (λ ne. rw (ne_eqb n 0 ne) (⊎_elim (λ lt. get_or-replicate size (n - 1) none none lt) (λ le. get_or_past (replicate size none) (n - 1) none (rw (length-replicate size none) le)) (cases_lt (n - 1) size)))
      (cases_eq n 0)

-- a number that passes its test is in range
pub number_range : (n high : ℕ) → (leb 1 n && leb n high) ≡ true → (1 ≤ n) × (n ≤ high)
number_range n high h = let both = and_parts (leb 1 n) (leb n high) h in (leb-true 1 n both.0, leb-true n high both.1)
