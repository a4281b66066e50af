-- The order of byte strings, place by place: what a comparison that goes through both strings at once finds.
use Rattle.std.proofs.Common.{◌≡◌, ℕ, ◌+◌, ◌<◌, ◌≤◌, Bool, true, List, length, drop, Some, None, slice_index, sym, ◌∙◌}
use Rattle.std.proofs.lemmas.List.{drop_all, drop_more}
use Rattle.std.specs.Option.{unwrap_or}
use Rattle.classes.specs.Keys.{byte_before, bytes_upto}

-- both strings from place i on
module _ (xs ys : List ℕ) (i : ℕ) (in_xs : i < length xs) (in_ys : i < length ys) where
  pub at_index : bytes_upto (drop i xs) (drop i ys) ≡ unwrap_or (byte_before (slice_index xs i) (slice_index ys i)) (bytes_upto (drop (i + 1) xs) (drop (i + 1) ys))
  at_index = rw (drop_more xs i 0 in_xs, drop_more ys i 0 in_ys)

  pub bytes_differ : (before : Bool) → Some before ≡ byte_before (slice_index xs i) (slice_index ys i) → before ≡ bytes_upto (drop i xs) (drop i ys)
  bytes_differ before h = sym (at_index ∙ rw (sym h))

  pub bytes_agree : None ≡ byte_before (slice_index xs i) (slice_index ys i) → bytes_upto (drop i xs) (drop i ys) ≡ bytes_upto (drop (i + 1) xs) (drop (i + 1) ys)
  bytes_agree h = at_index ∙ rw (sym h)

pub bytes_end : (xs ys : List ℕ) (i : ℕ) → length xs ≤ i → bytes_upto (drop i xs) (drop i ys) ≡ true
bytes_end xs ys i past = rw (drop_all i xs past)
