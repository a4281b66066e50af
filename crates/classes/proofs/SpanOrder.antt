-- Spans in order: the test and the facts are the same, and the facts keep every key out of all spans but one.
use Rattle.std.proofs.Common.{◌≡◌, ℕ, zero, suc, ◌+◌, ◌-◌, ◌<◌, Bool, true, false, List, [], ◌∷◌, length, get_or, drop, Some, None, Option, sym, refl, ⊎_elim, add-one, arith}
use Rattle.std.proofs.lemmas.Bool.{both_ways, and_parts, and_from, not-true, not_from_false, cases_order, cases_Bool}
use Rattle.classes.specs.declared.spans.Span.{Span}
use Rattle.classes.specs.Spans.{span_covers, after_high, span_follows, spans_ordered, spans_ordered_from, InOrder, NoKeyTwice}
use Rattle.classes.proofs.Steps.{drop_read}

module _ {K : Type 0} (upto : K → K → Bool) where
  -- a loop over the spans, at index i
  module _ (ss : List (Span K)) (i : ℕ) (s : Span K) (before : Option K) (within : i < length ss) (read : s ≡ get_or ss i s) where
    pub ordered_stops : false ≡ span_follows upto before s → spans_ordered_from upto before (drop i ss) ≡ false
    ordered_stops h = rw (drop_read ss i s within read) (rw (sym h) refl)

  -- from the test to the facts
  parts : (before : Option K) (s : Span K) (ss : List (Span K)) → spans_ordered_from upto before (s ∷ ss) ≡ true → (after_high upto before s.low ≡ true) × (upto s.low s.high ≡ true) × (spans_ordered_from upto (Some s.high) ss ≡ true)
  parts before s ss h =
      let both = and_parts (span_follows upto before s) (spans_ordered_from upto (Some s.high) ss) h in
      let here = and_parts (after_high upto before s.low) (upto s.low s.high) both.0 in
      (here.0, here.1, both.1)

  forward : (before : Option K) (ss : List (Span K)) → spans_ordered_from upto before ss ≡ true → (i : ℕ) (d : Span K) → i < length ss → upto (get_or ss i d).low (get_or ss i d).high ≡ true
  forward before [] h i d lt = absurd (omega arith)
  forward before (s ∷ ss) h zero d lt = (parts before s ss h).1
  forward before (s ∷ ss) h (suc i) d lt = forward (Some s.high) ss (parts before s ss h).2 i d (omega arith)

  rising : (before : Option K) (ss : List (Span K)) → spans_ordered_from upto before ss ≡ true → (i : ℕ) (d : Span K) → suc i < length ss → upto (get_or ss (suc i) d).low (get_or ss i d).high ≡ false
  rising before [] h i d lt = absurd (omega arith)
  rising before (s ∷ []) h i d lt = absurd (omega arith)
  rising before (s ∷ t ∷ ss) h zero d lt = not-true _ (parts (Some s.high) t ss (parts before s (t ∷ ss) h).2).0
  rising before (s ∷ t ∷ ss) h (suc i) d lt = rising (Some s.high) (t ∷ ss) (parts before s (t ∷ ss) h).2 i d (omega arith)

  pub in_order : (ss : List (Span K)) → spans_ordered upto ss ≡ true → InOrder upto ss
  in_order ss h = record {
    forward = forward None ss h;
    rising = λ i d lt. rw add-one (rising None ss h i d (omega arith));
  }

  -- and back
  tail : (s : Span K) (ss : List (Span K)) → InOrder upto (s ∷ ss) → InOrder upto ss
  tail s ss h = record {
    forward = λ i d lt. h.forward (suc i) d (omega arith);
    rising = λ i d lt. let e : suc i + 1 ≡ suc (i + 1) = omega arith in rw e at (h.rising (suc i) d (omega arith));
  }

  ordered_back : (before : Option K) (ss : List (Span K)) → ((d : Span K) → 0 < length ss → after_high upto before (get_or ss 0 d).low ≡ true) → InOrder upto ss → spans_ordered_from upto before ss ≡ true
  ordered_back before [] first h = refl
  ordered_back before (s ∷ ss) first h =
      and_from (span_follows upto before s) (spans_ordered_from upto (Some s.high) ss)
      (and_from (after_high upto before s.low) (upto s.low s.high) (first s (omega arith)) (h.forward 0 s (omega arith)))
      (ordered_back (Some s.high) ss (λ d lt. not_from_false (upto (get_or ss 0 d).low s.high) (h.rising 0 d (omega arith))) (tail s ss h))

  pub spans_ordered_back : (ss : List (Span K)) → InOrder upto ss → spans_ordered upto ss ≡ true
  spans_ordered_back ss h = ordered_back None ss (λ d lt. refl) h

  -- the order's laws: of two keys one is not after the other, and "not after" carries through a third key
  module _ (total : (a b : K) → upto a b ≡ false → upto b a ≡ true) (carries : (a b c : K) → upto a b ≡ true → upto b c ≡ true → upto a c ≡ true) (ss : List (Span K)) (h : InOrder upto ss) where
    -- every later low is after every earlier high
    later_low : (i k : ℕ) (d : Span K) → i + suc k < length ss → upto (get_or ss (i + suc k) d).low (get_or ss i d).high ≡ false
    later_low i zero d lt = h.rising i d lt
    later_low i (suc k) d lt =
        let j : ℕ = i + suc k in
        let next : i + suc (suc k) ≡ j + 1 = omega arith in
        let short : j < length ss = omega arith in
        let far : j + 1 < length ss = omega arith in
        let after_j : upto (get_or ss j d).high (get_or ss (j + 1) d).low ≡ true = total _ _ (h.rising j d far) in
        let before_j : upto (get_or ss j d).low (get_or ss j d).high ≡ true = h.forward j d short in
        rw next (⊎_elim
        (λ e. absurd (both_ways _ (later_low i k d short) (carries _ _ _ before_j (carries _ _ _ after_j e))))
        (λ e. e)
        (cases_Bool (upto (get_or ss (j + 1) d).low (get_or ss i d).high)))

    -- a key in an earlier span is not in a later one
    not_later : (key : K) (i j : ℕ) (d : Span K) → i < j → j < length ss → span_covers upto (get_or ss i d) key ≡ true → span_covers upto (get_or ss j d) key ≡ true → ⊥
    not_later key i j d lt within in-i in-j =
        let k : ℕ = j - i - 1 in
        let e : i + suc k ≡ j = omega arith in
        let far : i + suc k < length ss = omega arith in
        let below = (and_parts (upto (get_or ss i d).low key) (upto key (get_or ss i d).high) in-i).1 in
        let above = (and_parts (upto (get_or ss j d).low key) (upto key (get_or ss j d).high) in-j).0 in
        both_ways _ (rw e at (later_low i k d far)) (carries _ _ _ above below)

    pub no_key_twice : NoKeyTwice upto ss
    no_key_twice key i j d in-i in-j covers-i covers-j =
        ⊎_elim (λ e. e) (⊎_elim (λ lt. absurd (not_later key i j d lt in-j covers-i covers-j)) (λ gt. absurd (not_later key j i d gt in-i covers-j covers-i))) (cases_order i j)
