-- The sheet of a sound book reads back: put and add take its tariffs and live lines in turn.
use Rattle.std.proofs.Common.{◌≡◌, ℕ, zero, suc, ◌+◌, ◌-◌, ◌<◌, ◌≤◌, Bool, true, false, cond, not, ◌&&◌, eqb, leb, ◌≢◌, List, [], ◌∷◌, ◌++◌, length, get_or, drop, set, replicate, is_some, Some, None, Option, sym, refl, ap, ◌∙◌, subst, ⊎_elim, arith}
use Rattle.std.proofs.Math.Bool.{Bool-set}
use Rattle.std.proofs.Math.Logic.{∥∥₁_elim}
use base.Stored.{Coded-set}
use Rattle.std.proofs.lemmas.List.{drop_more, drop_all, get_or_past, map-id}
use Rattle.std.proofs.lemmas.Bool.{and_from, cases_eq, cases_lt, eq-eqb, ne_eqb, le-leb, false≢true, true≢false}
use Rattle.classes.specs.Outcomes.{Outcome, accepted, refusal}
use Rattle.classes.proofs.Clash.{clash}
use Rattle.tariff.specs.declared.terms.Tariff.{Tariff}
use Rattle.tariff.specs.declared.terms.Terms.{Terms}
use Rattle.tariff.specs.Ranges.{checked, numbers_of}
use Rattle.tariff.proofs.Ranges.{checked_again}
use Rattle.lines.specs.declared.states.Line.{Line}
use Rattle.lines.specs.declared.states.LineState.{LineState}
use Rattle.lines.specs.declared.states.LineState.TheVariants.{Free, Live, Withdrawn}
use Rattle.lines.specs.Sets.{counts_in_range}
use Rattle.lines.specs.Lines.{line_fits, state_meets}
use Rattle.lines.specs.Tables.{state_at, first_overlap}
use Rattle.lines.proofs.Numbers.{lowest_found}
use Rattle.lines.proofs.Overlaps.{meet_overlap}
use Rattle.contents.specs.declared.contents.Contents.{Contents}
use Rattle.contents.specs.declared.contents.Phase.TheVariants.{Blank, Draft}
use Rattle.contents.specs.contracts.contents.Contents.{the_row}
use Rattle.contents.specs.Contents.{in_phase, tariff_number, line_number, tariff_at, line_at}
use Rattle.contents.specs.Calls.{Refused, unless, answered, is_free, overlap_with, overlap_refusal, stored, added}
use Rattle.contents.proofs.Refused.{answered_accepted, passed}
use Rattle.sheet.specs.Acceptable.{tariff_records, line_records, RisingFrom, PutInTurn, AddedInTurn, Acceptable}
use Rattle.sheet.specs.Reading.{sheet_outcome, sheet_contents, contents_in, refused_in}
use Rattle.sheet.specs.Records.{opening_record, tariff_record, line_record, end_record}
use Rattle.sheet.specs.Writing.{tariff_bytes, line_bytes, table_bytes, sheet_of, write_refusal}
use Rattle.sheet.proofs.Accepted.{acceptable_accepted}
use Rattle.book.specs.Laws.{live_only, on_sheet, ReadsBack}
use Rattle.book.specs.Sound.{Sound, Supported}
use Rattle.book.proofs.Kept.{kept, kept_none, kept_all, kept_set, kept_skip, kept_low, kept_high, length_kept}
use Rattle.book.proofs.Refusing.{meeting}

-- the tariffs of a table with their numbers, from n on
abbrev tariff_entries : ℕ → List (Option Tariff) → List (ℕ × Terms)
tariff_entries n [] = []
tariff_entries n (None ∷ xs) = tariff_entries (n + 1) xs
tariff_entries n (Some t ∷ xs) = (n, numbers_of t) ∷ tariff_entries (n + 1) xs

-- the live lines of a table with their numbers, from n on
abbrev line_entries : ℕ → List LineState → List (ℕ × Line)
line_entries n [] = []
line_entries n (Free ∷ xs) = line_entries (n + 1) xs
line_entries n (Live l ∷ xs) = (n, l) ∷ line_entries (n + 1) xs
line_entries n (Withdrawn l ∷ xs) = line_entries (n + 1) xs

tariffs_bytes : (n : ℕ) (xs : List (Option Tariff)) → table_bytes tariff_bytes n xs ≡ tariff_records (tariff_entries n xs)
tariffs_bytes n [] = refl
tariffs_bytes n (None ∷ xs) = tariffs_bytes (n + 1) xs
tariffs_bytes n (Some t ∷ xs) = ap (λ rest. tariff_record n (numbers_of t) ++ rest) (tariffs_bytes (n + 1) xs)

lines_bytes : (n : ℕ) (xs : List LineState) → table_bytes line_bytes n xs ≡ line_records (line_entries n xs)
lines_bytes n [] = refl
lines_bytes n (Free ∷ xs) = lines_bytes (n + 1) xs
lines_bytes n (Live l ∷ xs) = ap (λ rest. line_record n l ++ rest) (lines_bytes (n + 1) xs)
lines_bytes n (Withdrawn l ∷ xs) = lines_bytes (n + 1) xs

tariffs_rise : (n low : ℕ) (xs : List (Option Tariff)) → low ≤ n → RisingFrom low (tariff_entries n xs)
tariffs_rise n low [] h = tt
tariffs_rise n low (None ∷ xs) h = tariffs_rise (n + 1) low xs (omega arith)
tariffs_rise n low (Some t ∷ xs) h = (h, tariffs_rise (n + 1) (n + 1) xs (omega arith))

lines_rise : (n low : ℕ) (xs : List LineState) → low ≤ n → RisingFrom low (line_entries n xs)
lines_rise n low [] h = tt
lines_rise n low (Free ∷ xs) h = lines_rise (n + 1) low xs (omega arith)
lines_rise n low (Live l ∷ xs) h = (h, lines_rise (n + 1) (n + 1) xs (omega arith))
lines_rise n low (Withdrawn l ∷ xs) h = lines_rise (n + 1) low xs (omega arith)

-- a test that is passed
pass : (b : Bool) (r : Refused) (rest : Option Refused) → b ≡ true → rest ≡ None → unless b r rest ≡ None
pass b r rest h none = ap (λ t. unless t r rest) h ∙ none

-- a number by its place
at_place : {A : Type 0} (none : A) (xs : List A) (k : ℕ) → cond (eqb (k + 1) 0) none (get_or xs (k + 1 - 1) none) ≡ get_or xs k none
at_place none xs k = let ne : k + 1 ≢ 0 = λ e. omega arith in rw (ne_eqb (k + 1) 0 ne) (ap (λ n. get_or xs n none) (omega arith))

number_passes : (n high : ℕ) → 1 ≤ n → n ≤ high → (leb 1 n && leb n high) ≡ true
number_passes n high low fits = and_from (leb 1 n) (leb n high) (le-leb 1 n low) (le-leb n high fits)

-- a tariff that was put has a number in range
tariff_named : (b : Contents) → length b.tariffs ≡ 64 → (m : ℕ) (t : Tariff) → tariff_at b m ≡ Some t → tariff_number m ≡ true
tariff_named b size m t e =
    ⊎_elim
    (λ zero_m. absurd (let wrong : None ≡ Some t = rw (eq-eqb m 0 zero_m) at e in clash cc))
    (λ ne. let here : get_or b.tariffs (m - 1) None ≡ Some t = rw (ne_eqb m 0 ne) at e in
    ⊎_elim
    (λ lt. number_passes m 64 (omega arith) (omega (arith, size)))
    (λ past. absurd (let wrong : None ≡ Some t = sym (get_or_past b.tariffs (m - 1) None past) ∙ here in clash cc))
    (cases_lt (m - 1) (length b.tariffs)))
    (cases_eq m 0)

live_back : (s : LineState) (l : Line) → live_only s ≡ Live l → s ≡ Live l
live_back Free l e = e
live_back (Live x) l e = e
live_back (Withdrawn x) l e = clash cc

not_free : (l : Line) → Free ≡ Live l → ⊥
not_free l e = clash cc

-- a line that is kept below a place was live there
kept_live : (k m : ℕ) (xs : List LineState) (l : Line) → state_at (kept live_only Free k xs) m ≡ Live l → (state_at xs m ≡ Live l) × (m ≤ k)
kept_live k m xs l e =
    ⊎_elim
    (λ zero_m. absurd (not_free l (rw (eq-eqb m 0 zero_m) at e)))
    (λ ne. let here : get_or (kept live_only Free k xs) (m - 1) Free ≡ Live l = rw (ne_eqb m 0 ne) at e in
    ⊎_elim
    (λ below. ⊎_elim
    (λ within. (rw (ne_eqb m 0 ne) (live_back (get_or xs (m - 1) Free) l (sym (kept_low live_only Free k (m - 1) xs Free below within) ∙ here)), omega arith))
    (λ past. absurd (not_free l (sym (get_or_past (kept live_only Free k xs) (m - 1) Free (rw (length_kept live_only Free k xs) past)) ∙ here)))
    (cases_lt (m - 1) (length xs)))
    (λ above. absurd (not_free l (sym (kept_high live_only Free k (m - 1) xs above) ∙ here)))
    (cases_lt (m - 1) k))
    (cases_eq m 0)

module _ (b : Contents) (s : Sound b) (other : in_phase Blank b ≡ false) where
  -- a draft of the book with these tariffs and lines
  draft_with : List (Option Tariff) → List LineState → Contents
  draft_with tariffs states = record { phase = Draft; version = b.version; counts = b.counts; tariffs = tariffs; lines = record { states = states } }

  no_lines : List LineState
  no_lines = replicate 256 Free

  -- the tariffs below a place
  tariffs_below : ℕ → Contents
  tariffs_below k = draft_with (kept (λ o. o) None k b.tariffs) no_lines

  put_next : (k : ℕ) (o : Option Tariff) → k < 64 → get_or b.tariffs k None ≡ o → PutInTurn (tariffs_below (k + 1)) (tariff_entries (k + 1 + 1) (drop (k + 1) b.tariffs)) (draft_with b.tariffs no_lines) → PutInTurn (tariffs_below k) (tariff_entries (k + 1) (o ∷ drop (k + 1) b.tariffs)) (draft_with b.tariffs no_lines)
  unfolding tariffs_below draft_with
  put_next k None below at rest =
      let within : k < length b.tariffs = omega (arith, s.tariff_places) in
      subst (λ ts. PutInTurn (draft_with ts no_lines) (tariff_entries (k + 1 + 1) (drop (k + 1) b.tariffs)) (draft_with b.tariffs no_lines)) (kept_skip (λ o. o) None k b.tariffs None at within) rest
  put_next k (Some t) below at rest =
      let within : k < length b.tariffs = omega (arith, s.tariff_places) in
      let here = kept (λ o. o) None k b.tariffs in
      let again = checked_again t (s.in_range (k + 1) t (at_place None b.tariffs k ∙ at)) in
      let filled : set here (k + 1 - 1) (Some t) ≡ kept (λ o. o) None (k + 1) b.tariffs = ap (λ n. set here n (Some t)) (omega arith) ∙ ap (set here k) (sym at) ∙ kept_set (λ o. o) None k b.tariffs None within in
      let after : stored (k + 1) (checked (numbers_of t)) (tariffs_below k) ≡ tariffs_below (k + 1) = ap (λ o. stored (k + 1) o (tariffs_below k)) again ∙ ap (λ ts. draft_with ts no_lines) filled in (
        pass true (1, []) _ refl (pass (tariff_number (k + 1)) (3, []) _ (number_passes (k + 1) 64 (omega arith) (omega arith)) (pass (is_some (checked (numbers_of t))) (4, []) None (ap is_some again) refl)),
        subst (λ x. PutInTurn x (tariff_entries (k + 1 + 1) (drop (k + 1) b.tariffs)) (draft_with b.tariffs no_lines)) (sym after) rest,
      )

  put_from : (j k : ℕ) → k + j ≡ 64 → PutInTurn (tariffs_below k) (tariff_entries (k + 1) (drop k b.tariffs)) (draft_with b.tariffs no_lines)
  unfolding tariffs_below draft_with
  put_from zero k e =
      let past : length b.tariffs ≤ k = omega (arith, s.tariff_places) in
      subst (λ es. PutInTurn (tariffs_below k) es (draft_with b.tariffs no_lines)) (sym (ap (tariff_entries (k + 1)) (drop_all k b.tariffs past)))
      (ap (λ ts. draft_with ts no_lines) (kept_all (λ o. o) None k b.tariffs past ∙ map-id b.tariffs))
  put_from (suc j) k e =
      let within : k < length b.tariffs = omega (arith, s.tariff_places) in
      subst (λ es. PutInTurn (tariffs_below k) es (draft_with b.tariffs no_lines)) (sym (ap (tariff_entries (k + 1)) (drop_more b.tariffs k None within)))
      (put_next k (get_or b.tariffs k None) (omega arith) refl (put_from j (k + 1) (omega arith)))

  -- the live lines below a place
  lines_below : ℕ → Contents
  lines_below k = draft_with b.tariffs (kept live_only Free k b.lines.states)

  -- a live line is clear of the live lines below it
  clear_below : (k : ℕ) (l : Line) → get_or b.lines.states k Free ≡ Live l → Supported b l → overlap_refusal (lines_below k) l ≡ None
  unfolding lines_below draft_with
  clear_below k l at support = by (first_overlap (kept live_only Free k b.lines.states) l) refl
    where
      by : (o : Option ℕ) → first_overlap (kept live_only Free k b.lines.states) l ≡ o → overlap_with o ≡ None
      by None found = refl
      by (Some m) found =
          let low = lowest_found (state_meets l) refl (kept live_only Free k b.lines.states) m found in
          let met = meeting l (state_at (kept live_only Free k b.lines.states) m) low.passes in
          let was = kept_live k m b.lines.states met.0 met.1 in
          let shared = meet_overlap b.counts l met.0 (s.counted other) support.fits met.2 in
          let same = s.apart shared.shared shared.combination (k + 1) m l met.0 (at_place Free b.lines.states k ∙ at) was.0 shared.by_first shared.by_second in
          absurd (omega (arith, same, was.1))

  add_next : (k : ℕ) (o : LineState) → k < 256 → get_or b.lines.states k Free ≡ o → AddedInTurn (lines_below (k + 1)) (line_entries (k + 1 + 1) (drop (k + 1) b.lines.states)) (on_sheet b) → AddedInTurn (lines_below k) (line_entries (k + 1) (o ∷ drop (k + 1) b.lines.states)) (on_sheet b)
  unfolding lines_below draft_with
  add_next k Free below at rest =
      let within : k < length b.lines.states = omega (arith, s.line_places) in
      subst (λ ls. AddedInTurn (draft_with b.tariffs ls) (line_entries (k + 1 + 1) (drop (k + 1) b.lines.states)) (on_sheet b)) (kept_skip live_only Free k b.lines.states Free (ap live_only at) within) rest
  add_next k (Withdrawn l) below at rest =
      let within : k < length b.lines.states = omega (arith, s.line_places) in
      subst (λ ls. AddedInTurn (draft_with b.tariffs ls) (line_entries (k + 1 + 1) (drop (k + 1) b.lines.states)) (on_sheet b)) (kept_skip live_only Free k b.lines.states Free (ap live_only at) within) rest
  add_next k (Live l) below at rest =
      let within : k < length b.lines.states = omega (arith, s.line_places) in
      let here = kept live_only Free k b.lines.states in
      let support = s.live (k + 1) l (at_place Free b.lines.states k ∙ at) in
      let empty : line_at (lines_below k) (k + 1) ≡ Free = at_place Free here k ∙ kept_high live_only Free k k b.lines.states (omega arith) in
      let filled : set here (k + 1 - 1) (Live l) ≡ kept live_only Free (k + 1) b.lines.states = ap (λ n. set here n (Live l)) (omega arith) ∙ ap (set here k) (sym (ap live_only at)) ∙ kept_set live_only Free k b.lines.states Free within in
      let after : added (k + 1) l (lines_below k) ≡ lines_below (k + 1) = ap (draft_with b.tariffs) filled in (
        pass true (1, []) _ refl
            (pass (line_number (k + 1)) (5, []) _ (number_passes (k + 1) 256 (omega arith) (omega arith))
            (pass (is_free (line_at (lines_below k) (k + 1))) (6, []) _ (ap is_free empty)
            (pass (tariff_number l.tariff) (3, []) _ (tariff_named b s.tariff_places l.tariff support.tariff support.put)
            (pass (is_some (tariff_at b l.tariff)) (9, []) _ (ap is_some support.put)
            (pass (line_fits b.counts l) (10, []) _ support.fits (clear_below k l at support)))))),
        subst (λ x. AddedInTurn x (line_entries (k + 1 + 1) (drop (k + 1) b.lines.states)) (on_sheet b)) (sym after) rest,
      )

  add_from : (j k : ℕ) → k + j ≡ 256 → AddedInTurn (lines_below k) (line_entries (k + 1) (drop k b.lines.states)) (on_sheet b)
  unfolding lines_below draft_with
  add_from zero k e =
      let past : length b.lines.states ≤ k = omega (arith, s.line_places) in
      subst (λ es. AddedInTurn (lines_below k) es (on_sheet b)) (sym (ap (line_entries (k + 1)) (drop_all k b.lines.states past)))
      (ap (draft_with b.tariffs) (kept_all live_only Free k b.lines.states past))
  add_from (suc j) k e =
      let within : k < length b.lines.states = omega (arith, s.line_places) in
      subst (λ es. AddedInTurn (lines_below k) es (on_sheet b)) (sym (ap (line_entries (k + 1)) (drop_more b.lines.states k Free within)))
      (add_next k (get_or b.lines.states k Free) (omega arith) refl (add_from j (k + 1) (omega arith)))

  own_sheet : Acceptable (sheet_of b) (on_sheet b)
  unfolding tariffs_below lines_below draft_with no_lines sheet_of
  own_sheet =
      let no_tariffs = kept_none (λ o. o) None b.tariffs ∙ ap (λ n. replicate n None) s.tariff_places in
      let none_live = kept_none live_only Free b.lines.states ∙ ap (λ n. replicate n Free) s.line_places in
      record {
        version = b.version;
        counts = b.counts;
        tariffs = tariff_entries 1 b.tariffs;
        lines = line_entries 1 b.lines.states;
        sheet = λ i. opening_record b.version b.counts ++ (tariffs_bytes 1 b.tariffs i ++ (lines_bytes 1 b.lines.states i ++ end_record));
        tariffs_rise = tariffs_rise 1 0 b.tariffs (omega arith);
        lines_rise = lines_rise 1 0 b.lines.states (omega arith);
        opens = pass true (1, []) _ refl (pass (counts_in_range b.counts) (2, []) None (s.counted other) refl);
        with_tariffs = draft_with b.tariffs no_lines;
        puts = subst (λ ts. PutInTurn (draft_with ts no_lines) (tariff_entries 1 b.tariffs) (draft_with b.tariffs no_lines)) no_tariffs (put_from 64 0 refl);
        adds = subst (λ ls. AddedInTurn (draft_with b.tariffs ls) (line_entries 1 b.lines.states) (on_sheet b)) none_live (add_from 256 0 refl);
      }

  pub sound_reads_back : ReadsBack b (sheet_of b)
  sound_reads_back = acceptable_accepted (sheet_of b) (on_sheet b) own_sheet

-- the same of the truncated fact, since contents and tests are sets
pub reads_back : (b : Contents) → ∥ Sound b ∥₁ → in_phase Blank b ≡ false → ReadsBack b (sheet_of b)
reads_back b s other =
    let none : is_some (refused_in (sheet_outcome (sheet_of b))) ≡ false = ∥∥₁_elim s (Bool-set _ _) (λ k. ap (λ o. is_some (refused_in o)) (sound_reads_back b k other)) in
    let same : sheet_contents (sheet_of b) ≡ on_sheet b = ∥∥₁_elim s (Coded-set the_row.coded _ _) (λ k. ap contents_in (sound_reads_back b k other)) in
    by (sheet_outcome (sheet_of b)) none same
  where
    by : (o : Outcome Contents) → is_some (refused_in o) ≡ false → contents_in o ≡ on_sheet b → o ≡ accepted (on_sheet b)
    by (accepted x) none same = ap accepted same
    by (refusal r) none same = absurd (true≢false none)

-- a book that was written was not blank
pub written_reads_back : (b : Contents) (space n : ℕ) → ∥ Sound b ∥₁ → answered (write_refusal b space) (length (sheet_of b)) ≡ accepted n → ReadsBack b (sheet_of b)
written_reads_back b space n s e =
    let none = (answered_accepted (write_refusal b space) (length (sheet_of b)) n e).0 in
    reads_back b s (not_true (in_phase Blank b) (passed (not (in_phase Blank b)) (1, []) _ none).0)
  where
    not_true : (t : Bool) → not t ≡ true → t ≡ false
    not_true true h = absurd (false≢true h)
    not_true false h = refl
