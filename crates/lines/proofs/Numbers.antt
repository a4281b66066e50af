-- The first line number that passes a test.
use Rattle.std.proofs.Common.{◌≡◌, ℕ, zero, suc, ◌+◌, ◌-◌, ◌<◌, Bool, true, false, List, [], ◌∷◌, get_or, Some, None, Option, option_map, sym, refl, ◌∙◌, ⊎_elim, arith, MatchOption}
use Rattle.std.specs.List.{position_from}
use Rattle.std.proofs.lemmas.Bool.{cases_Bool, cases_eq, eq-eqb, ne_eqb, false≢true}
use Rattle.classes.specs.declared.refusal.Classes.{Classes}
use Rattle.classes.proofs.Clash.{clash}
use Rattle.lines.specs.declared.states.Line.{Line}
use Rattle.lines.specs.declared.states.LineState.{LineState}
use Rattle.lines.specs.declared.states.LineState.TheVariants.{Free, Live, Withdrawn}
use Rattle.lines.specs.Lines.{claims, state_claims, state_meets}
use Rattle.lines.specs.Tables.{state_at, first_overlap, first_claim, Lowest}

-- a place counts from 0, and the number there from 1
pub number_from_place : (test : LineState → Bool) (states : List LineState) (i : ℕ) → option_map (λ n. n + 1) (position_from test i states) ≡ position_from test (i + 1) states
number_from_place test [] i = refl
number_from_place test (s ∷ ss) i =
    ⊎_elim
    (λ h. rw h refl)
    (λ h. rw h (number_from_place test ss (i + 1)))
    (cases_Bool (test s))

-- from the number to what it means
module _ (test : LineState → Bool) (free : test Free ≡ false) where
  -- the number is found at a place at which the test passes, and at none before
  found : (states : List LineState) (from n : ℕ) → position_from test from states ≡ Some n → (i : ℕ) × (n ≡ from + i) × (test (get_or states i Free) ≡ true) × ((j : ℕ) → j < i → test (get_or states j Free) ≡ false)
  found [] from n e = clash cc
  found (s ∷ ss) from n e =
      ⊎_elim
      (λ h. let here : Some from ≡ Some n = rw h at e in (0, omega (arith, same_some from n here), h, λ j lt. absurd (omega (arith, lt))))
      (λ h. let there = found ss (from + 1) n (rw h at e) in (suc there.0, omega (arith, there.1), there.2, before h there.0 there.3))
      (cases_Bool (test s))
    where
      same_some : (a b : ℕ) → Some a ≡ Some b → a ≡ b
      same_some a b p = cc

      before : test s ≡ false → (i : ℕ) → ((j : ℕ) → j < i → test (get_or ss j Free) ≡ false) → (j : ℕ) → j < suc i → test (get_or (s ∷ ss) j Free) ≡ false
      before h i f zero lt = h
      before h i f (suc j) lt = f j (omega arith)

  missing : (states : List LineState) (from : ℕ) → position_from test from states ≡ None → (i : ℕ) → test (get_or states i Free) ≡ false
  missing [] from e i = free
  missing (s ∷ ss) from e i =
      ⊎_elim
      (λ h. absurd (let no : Some from ≡ None = rw h at e in clash cc))
      (λ h. none h (missing ss (from + 1) (rw h at e)) i)
      (cases_Bool (test s))
    where
      none : test s ≡ false → ((j : ℕ) → test (get_or ss j Free) ≡ false) → (j : ℕ) → test (get_or (s ∷ ss) j Free) ≡ false
      none h f zero = h
      none h f (suc j) = f j

  -- the same by numbers
  at_number : (states : List LineState) (n : ℕ) (b : Bool) → ((n ≡ 0) → b ≡ false) → ((n ≡ 0 → ⊥) → test (get_or states (n - 1) Free) ≡ b) → test (state_at states n) ≡ b
  at_number states n b none some =
      ⊎_elim
      (λ e. rw (eq-eqb n 0 e) (free ∙ sym (none e)))
      (λ ne. rw (ne_eqb n 0 ne) (some ne))
      (cases_eq n 0)

  pub lowest_found : (states : List LineState) (n : ℕ) → position_from test 1 states ≡ Some n → Lowest test states n
  lowest_found states n e =
      let f = found states 1 n e in
      let place : n - 1 ≡ f.0 = omega (arith, f.1) in
      record {
        passes = at_number states n true (λ z. absurd (omega (arith, f.1, z))) (λ _. rw place f.2);
        first = λ m lt. at_number states m false (λ _. refl) (λ ne. f.3 (m - 1) (omega (arith, f.1, lt, ne)));
      }

  pub none_found : (states : List LineState) → position_from test 1 states ≡ None → (n : ℕ) → test (state_at states n) ≡ false
  none_found states e n = at_number states n false (λ _. refl) (λ _. missing states 1 e (n - 1))

  -- either way
  pub lowest_meaning : (states : List LineState) (r : Option ℕ) → r ≡ position_from test 1 states → MatchOption r ((n : ℕ) → test (state_at states n) ≡ false) (Lowest test states)
  lowest_meaning states None e = none_found states (sym e)
  lowest_meaning states (Some n) e = lowest_found states n (sym e)

pub overlap_meaning : (states : List LineState) (l : Line) (r : Option ℕ) → r ≡ first_overlap states l → MatchOption r ((n : ℕ) → state_meets l (state_at states n) ≡ false) (Lowest (state_meets l) states)
overlap_meaning states l = lowest_meaning (state_meets l) refl states

pub claim_meaning : (states : List LineState) (k : Classes) (r : Option ℕ) → r ≡ first_claim states k → MatchOption r ((n : ℕ) → state_claims k (state_at states n) ≡ false) (Lowest (state_claims k) states)
claim_meaning states k = lowest_meaning (state_claims k) refl states

-- what claims is live
pub live_line : (k : Classes) (s : LineState) → state_claims k s ≡ true → (l : Line) × (s ≡ Live l) × (claims l k ≡ true)
live_line k Free h = absurd (false≢true h)
live_line k (Live l) h = (l, refl, h)
live_line k (Withdrawn l) h = absurd (false≢true h)
