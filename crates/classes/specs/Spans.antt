-- Spans of keys, in the order `upto`: the keys that a span covers, and spans that stand in order.
use Rattle.std.specs.Prelude.{◌≡◌, ℕ, ◌+◌, ◌<◌, Bool, true, false, not, ◌&&◌, List, [], ◌∷◌, length, get_or, Some, None, Option, slice_index_or}
use Rattle.classes.specs.declared.spans.Span.{Span}

abbrev pub span_class : {K : Type 0} → Span K → ℕ
span_class s = s.class

module _ {K : Type 0} (upto : K → K → Bool) where
  -- from low to high, both included
  abbrev pub span_covers : Span K → K → Bool
  span_covers s key = upto s.low key && upto key s.high

  -- the key is after the high before it, if there is one
  abbrev pub after_high : Option K → K → Bool
  after_high None key = true
  after_high (Some high) key = not (upto key high)

  -- the span runs forward, from after the high before it
  abbrev pub span_follows : Option K → Span K → Bool
  span_follows before s = after_high before s.low && upto s.low s.high

  -- each span follows the one before it
  abbrev pub spans_ordered_from : Option K → List (Span K) → Bool
  spans_ordered_from before [] = true
  spans_ordered_from before (s ∷ ss) = span_follows before s && spans_ordered_from (Some s.high) ss

  abbrev pub spans_ordered : List (Span K) → Bool
  spans_ordered ss = spans_ordered_from None ss

  -- no low is after its high, and each later low is after the high before it
  pub record InOrder (ss : List (Span K)) : Type 0 where
    pub forward : (i : ℕ) (d : Span K) → i < length ss → upto (get_or ss i d).low (get_or ss i d).high ≡ true
    pub rising : (i : ℕ) (d : Span K) → i + 1 < length ss → upto (get_or ss (i + 1) d).low (get_or ss i d).high ≡ false

  -- no key lies in two spans
  abbrev pub NoKeyTwice : List (Span K) → Type 0
  NoKeyTwice ss = (key : K) (i j : ℕ) (d : Span K) → i < length ss → j < length ss → span_covers (slice_index_or ss i d) key ≡ true → span_covers (slice_index_or ss j d) key ≡ true → i ≡ j
