-- What is left of a sheet at each stage of reading it, in the words of an acceptable sheet.
use Rattle.std.proofs.Common.{◌≡◌, ℕ, zero, suc, ◌+◌, ◌<◌, ◌≤◌, Bool, true, false, cond, eqb, leb, List, [], ◌∷◌, ◌++◌, length, take, drop, Some, None, Option, sym, refl, ap, ◌∙◌, subst, arith}
use Rattle.std.specs.Int.Digits.{AllBelowBase}
use Rattle.std.proofs.lemmas.List.Elements.{All-take, All-tail, All-from_recursion}
use Rattle.std.proofs.lemmas.List.{append_assoc, take-append-drop, length-take-le, nil_from_length}
use Rattle.std.proofs.lemmas.Bool.{false≢true, eqb-true, ltb-true, leb-true}
use Rattle.classes.specs.Outcomes.{Outcome, accepted}
use Rattle.classes.proofs.Clash.{clash}
use Rattle.tariff.specs.declared.terms.Terms.{Terms}
use Rattle.lines.specs.declared.sets.Counts.{Counts}
use Rattle.lines.specs.declared.states.Line.{Line}
use Rattle.contents.specs.declared.contents.Contents.{Contents}
use Rattle.contents.specs.Contents.{with_version}
use Rattle.contents.specs.Calls.{Refused, open_refusal, opened, put_refusal, add_refusal}
use Rattle.contents.proofs.Refused.{passed}
use Rattle.sheet.specs.declared.records.Kind.{Kind}
use Rattle.sheet.specs.declared.records.Kind.TheVariants.{Opening, Tariff, Line as LineKind, End}
use Rattle.sheet.specs.declared.reading.Draft.{Draft}
use Rattle.sheet.specs.declared.reading.Stage.{Stage}
use Rattle.sheet.specs.declared.reading.Stage.TheVariants.{Start, Tariffs, Lines, Ended}
use Rattle.sheet.specs.Acceptable.{tariff_records, line_records, RisingFrom, PutInTurn, AddedInTurn, Acceptable}
use Rattle.sheet.specs.Records.{kind_coded, body_length, opening_record, tariff_record, line_record, end_record, opening_version, opening_counts, body_tariff, body_terms, body_number, body_line}
use Rattle.sheet.specs.Reading.{not_ended, due, above, fields_refusal, body_refusal, body_taken, kind_refusal, kind_taken, kind_length, record_refusal, placed_or, finished, read_on, new_draft, sheet_outcome}
use Rattle.sheet.proofs.Bytes.{AreBytes}
use Rattle.sheet.proofs.Codec.{opening_again, tariff_again, line_again}
use Rattle.sheet.proofs.Keeping.{no_fields_refusal}
use Rattle.sheet.proofs.Walk.{taken_whole}

-- the lowest number that may come after another
abbrev pub low_after : Option ℕ → ℕ
low_after None = 0
low_after (Some n) = n + 1

pub record LinesLeft (b : Contents) (low : ℕ) (bytes : List ℕ) (after : Contents) : Type 0 where
  pub lines : List (ℕ × Line)
  pub sheet : bytes ≡ line_records lines ++ end_record
  pub rise : RisingFrom low lines
  pub adds : AddedInTurn b lines after

pub record TariffsLeft (b : Contents) (low lines_low : ℕ) (bytes : List ℕ) (after : Contents) : Type 0 where
  pub tariffs : List (ℕ × Terms)
  pub rest : List ℕ
  pub sheet : bytes ≡ tariff_records tariffs ++ rest
  pub rise : RisingFrom low tariffs
  pub with_tariffs : Contents
  pub puts : PutInTurn b tariffs with_tariffs
  pub then : LinesLeft with_tariffs lines_low rest after

pub record AllLeft (b : Contents) (low lines_low : ℕ) (bytes : List ℕ) (after : Contents) : Type 0 where
  pub version : ℕ
  pub counts : Counts
  pub rest : List ℕ
  pub sheet : bytes ≡ opening_record version counts ++ rest
  pub opens : open_refusal b counts ≡ None
  pub then : TariffsLeft (with_version version (opened counts b)) low lines_low rest after

-- what is left at a stage, from the contents read so far
abbrev pub left_at : Stage → Contents → ℕ → ℕ → List ℕ → Contents → Type 0
left_at Start b low lines_low bytes after = AllLeft b low lines_low bytes after
left_at Tariffs b low lines_low bytes after = TariffsLeft b low lines_low bytes after
left_at Lines b low lines_low bytes after = LinesLeft b lines_low bytes after
left_at Ended b low lines_low bytes after = (bytes ≡ []) × (b ≡ after)

abbrev pub Left : Draft → List ℕ → Contents → Type 0
Left d bytes after = left_at d.stage d.contents (low_after d.last_tariff) (low_after d.last_line) bytes after

low_from : (last : Option ℕ) (n : ℕ) → above last n ≡ true → low_after last ≤ n
low_from None n h = omega arith
low_from (Some m) n h = let more = ltb-true m n h in omega arith

abbrev draft_of : Contents → Option ℕ → Option ℕ → Stage → Draft
draft_of b t l s = record { contents = b; stage = s; last_tariff = t; last_line = l }

module _ (b : Contents) (t l : Option ℕ) (body rest : List ℕ) (after : Contents) (bytes : AreBytes body) where
  opening_left : length body ≡ 5 → body_refusal (draft_of b t l Start) Opening body ≡ None → Left (body_taken (draft_of b t l Start) Opening body) rest after → Left (draft_of b t l Start) (1 ∷ (body ++ rest)) after
  opening_left size e left = record {
    version = opening_version body;
    counts = opening_counts body;
    rest = rest;
    sheet = ap (λ xs. xs ++ rest) (sym (opening_again body bytes size));
    opens = no_fields_refusal (open_refusal b (opening_counts body)) e;
    then = left;
  }

  tariff_left : length body ≡ 30 → body_refusal (draft_of b t l Tariffs) Tariff body ≡ None → Left (body_taken (draft_of b t l Tariffs) Tariff body) rest after → Left (draft_of b t l Tariffs) (2 ∷ (body ++ rest)) after
  tariff_left size e left =
      let first = passed (above t (body_tariff body)) (19, []) (fields_refusal (put_refusal b (body_tariff body) (body_terms body))) e in
      record {
        tariffs = (body_tariff body, body_terms body) ∷ left.tariffs;
        rest = left.rest;
        sheet = ap (λ xs. xs ++ rest) (sym (tariff_again body bytes size)) ∙ ap (λ xs. tariff_record (body_tariff body) (body_terms body) ++ xs) left.sheet ∙ sym (append_assoc (tariff_record (body_tariff body) (body_terms body)) (tariff_records left.tariffs) left.rest);
        rise = (low_from t (body_tariff body) first.0, left.rise);
        with_tariffs = left.with_tariffs;
        puts = (no_fields_refusal (put_refusal b (body_tariff body) (body_terms body)) first.1, left.puts);
        then = left.then;
      }

  line_left : length body ≡ 35 → body_refusal (draft_of b t l Lines) LineKind body ≡ None → Left (body_taken (draft_of b t l Lines) LineKind body) rest after → LinesLeft b (low_after l) (3 ∷ (body ++ rest)) after
  line_left size e left =
      let first = passed (above l (body_number body)) (19, []) (fields_refusal (add_refusal b (body_number body) (body_line body))) e in
      record {
        lines = (body_number body, body_line body) ∷ left.lines;
        sheet = ap (λ xs. xs ++ rest) (sym (line_again body bytes size)) ∙ ap (λ xs. line_record (body_number body) (body_line body) ++ xs) left.sheet ∙ sym (append_assoc (line_record (body_number body) (body_line body)) (line_records left.lines) end_record);
        rise = (low_from l (body_number body) first.0, left.rise);
        adds = (no_fields_refusal (add_refusal b (body_number body) (body_line body)) first.1, left.adds);
      }

  end_left : length body ≡ 0 → Left (draft_of b t l Ended) rest after → LinesLeft b (low_after l) (4 ∷ (body ++ rest)) after
  end_left size left = record {
    lines = [];
    sheet = ap (λ xs. 4 ∷ (xs ++ rest)) (nil_from_length body size) ∙ ap (λ xs. 4 ∷ xs) left.0;
    rise = tt;
    adds = left.1;
  }

-- no tariffs before the lines
only_lines : (b : Contents) (low lines_low : ℕ) (bytes : List ℕ) (after : Contents) → LinesLeft b lines_low bytes after → TariffsLeft b low lines_low bytes after
only_lines b low lines_low bytes after left = record { tariffs = []; rest = bytes; sheet = refl; rise = tt; with_tariffs = b; puts = refl; then = left }

-- each kind has one code
abbrev pub kind_code : Kind → ℕ
kind_code Opening = 1
kind_code Tariff = 2
kind_code LineKind = 3
kind_code End = 4

pub code_of : (n : ℕ) (kind : Kind) → kind_coded n ≡ Some kind → n ≡ kind_code kind
code_of n kind e = first (eqb n 1) refl e
  where
    fourth : (x : Bool) → eqb n 4 ≡ x → cond x (Some End) None ≡ Some kind → n ≡ kind_code kind
    fourth true at h = let same : End ≡ kind = cc in eqb-true n 4 at ∙ ap kind_code same
    fourth false at h = clash cc

    third : (x : Bool) → eqb n 3 ≡ x → cond x (Some LineKind) (cond (eqb n 4) (Some End) None) ≡ Some kind → n ≡ kind_code kind
    third true at h = let same : LineKind ≡ kind = cc in eqb-true n 3 at ∙ ap kind_code same
    third false at h = fourth (eqb n 4) refl h

    second : (x : Bool) → eqb n 2 ≡ x → cond x (Some Tariff) (cond (eqb n 3) (Some LineKind) (cond (eqb n 4) (Some End) None)) ≡ Some kind → n ≡ kind_code kind
    second true at h = let same : Tariff ≡ kind = cc in eqb-true n 2 at ∙ ap kind_code same
    second false at h = third (eqb n 3) refl h

    first : (x : Bool) → eqb n 1 ≡ x → cond x (Some Opening) (cond (eqb n 2) (Some Tariff) (cond (eqb n 3) (Some LineKind) (cond (eqb n 4) (Some End) None))) ≡ Some kind → n ≡ kind_code kind
    first true at h = let same : Opening ≡ kind = cc in eqb-true n 1 at ∙ ap kind_code same
    first false at h = second (eqb n 2) refl h

-- one record more
module _ (b : Contents) (t l : Option ℕ) (body rest : List ℕ) (after : Contents) (bytes : AreBytes body) where
  record_left : (stage : Stage) (kind : Kind) → due stage kind ≡ true → length body ≡ body_length kind → body_refusal (draft_of b t l stage) kind body ≡ None → Left (body_taken (draft_of b t l stage) kind body) rest after → Left (draft_of b t l stage) (kind_code kind ∷ (body ++ rest)) after
  record_left Start Opening is_due size e left = opening_left b t l body rest after bytes size e left
  record_left Start Tariff is_due size e left = absurd (false≢true is_due)
  record_left Start LineKind is_due size e left = absurd (false≢true is_due)
  record_left Start End is_due size e left = absurd (false≢true is_due)
  record_left Tariffs Opening is_due size e left = absurd (false≢true is_due)
  record_left Tariffs Tariff is_due size e left = tariff_left b t l body rest after bytes size e left
  record_left Tariffs LineKind is_due size e left = only_lines b (low_after t) (low_after l) (3 ∷ (body ++ rest)) after (line_left b t l body rest after bytes size e left)
  record_left Tariffs End is_due size e left = only_lines b (low_after t) (low_after l) (4 ∷ (body ++ rest)) after (end_left b t l body rest after bytes size left)
  record_left Lines Opening is_due size e left = absurd (false≢true is_due)
  record_left Lines Tariff is_due size e left = absurd (false≢true is_due)
  record_left Lines LineKind is_due size e left = line_left b t l body rest after bytes size e left
  record_left Lines End is_due size e left = end_left b t l body rest after bytes size left
  record_left Ended Opening is_due size e left = absurd (false≢true is_due)
  record_left Ended Tariff is_due size e left = absurd (false≢true is_due)
  record_left Ended LineKind is_due size e left = absurd (false≢true is_due)
  record_left Ended End is_due size e left = absurd (false≢true is_due)

-- at the end of the input
ended_left : (stage : Stage) (b : Contents) (t l : Option ℕ) (place : ℕ) (after : Contents) → finished (draft_of b t l stage) place ≡ accepted after → Left (draft_of b t l stage) [] after
ended_left Start b t l place after e = clash cc
ended_left Tariffs b t l place after e = clash cc
ended_left Lines b t l place after e = clash cc
ended_left Ended b t l place after e = let same : b ≡ after = cc in (refl, same)

-- a record by its kind, which is due and has its whole body
kind_left : (d : Draft) (code : ℕ) (kind : Option Kind) (rest : List ℕ) (after : Contents) → kind_coded code ≡ kind → AreBytes rest → kind_refusal d kind rest ≡ None → Left (kind_taken d kind rest) (drop (kind_length kind) rest) after → Left d (code ∷ rest) after
kind_left d code None rest after coded bytes e left = clash cc
kind_left d code (Some kind) rest after coded bytes e left =
    let is_due = passed (due d.stage kind) (19, []) _ e in
    let whole = passed (leb (body_length kind) (length rest)) (17, []) (body_refusal d kind (take (body_length kind) rest)) is_due.1 in
    let body = take (body_length kind) rest in
    let size = length-take-le (body_length kind) rest (leb-true (body_length kind) (length rest) whole.0) in
    let here = record_left d.contents d.last_tariff d.last_line body (drop (body_length kind) rest) after (All-take (λ x. x < 256) (body_length kind) rest bytes) d.stage kind is_due.0 size whole.1 left in
    subst (λ xs. Left d xs after) (ap (λ c. c ∷ (body ++ drop (body_length kind) rest)) (sym (code_of code kind coded)) ∙ ap (λ xs. code ∷ xs) (take-append-drop (body_length kind) rest)) here

reading_left : (d : Draft) (place n : ℕ) (bytes : List ℕ) (after : Contents) → n ≤ length bytes → AreBytes bytes → read_on d place n bytes ≡ accepted after → Left d (drop n bytes) after
unfolding read_on
reading_left d place zero [] after fits small e = ended_left d.stage d.contents d.last_tariff d.last_line place after e
reading_left d place (suc n) [] after fits small e = absurd (omega arith)
reading_left d place (suc n) (x ∷ bytes) after fits small e = reading_left d (place + 1) n bytes after (omega arith) (All-tail (λ b. b < 256) x bytes small) e
reading_left d place zero (x ∷ bytes) after fits small e =
    by (record_refusal d x bytes) refl e
    (λ whole got. reading_left (kind_taken d (kind_coded x) bytes) (place + 1) (kind_length (kind_coded x)) bytes after whole (All-tail (λ b. b < 256) x bytes small) got)
  where
    next : Outcome Contents
    next = read_on (kind_taken d (kind_coded x) bytes) (place + 1) (kind_length (kind_coded x)) bytes

    by : (r : Option Refused) → record_refusal d x bytes ≡ r → placed_or place r next ≡ accepted after → (kind_length (kind_coded x) ≤ length bytes → next ≡ accepted after → Left (kind_taken d (kind_coded x) bytes) (drop (kind_length (kind_coded x)) bytes) after) → Left d (x ∷ bytes) after
    by (Some y) why got on = clash cc
    by None why got on =
        let tested = (passed (not_ended d.stage) (19, []) (kind_refusal d (kind_coded x) bytes) why).1 in
        kind_left d x (kind_coded x) bytes after refl (All-tail (λ b. b < 256) x bytes small) tested (on (taken_whole d x bytes why) got)

-- an accepted sheet is acceptable
pub accepted_acceptable : (bytes : List ℕ) (b : Contents) → AllBelowBase 256 bytes → sheet_outcome bytes ≡ accepted b → Acceptable bytes b
accepted_acceptable bytes b small e =
    let all = reading_left new_draft 0 0 bytes b (omega arith) (All-from_recursion (λ b. b < 256) bytes small) e in
    let tariffs = all.then in
    let lines = tariffs.then in
    record {
      version = all.version;
      counts = all.counts;
      tariffs = tariffs.tariffs;
      lines = lines.lines;
      sheet = all.sheet ∙ ap (λ xs. opening_record all.version all.counts ++ xs) (tariffs.sheet ∙ ap (λ xs. tariff_records tariffs.tariffs ++ xs) lines.sheet);
      tariffs_rise = tariffs.rise;
      lines_rise = lines.rise;
      opens = all.opens;
      with_tariffs = tariffs.with_tariffs;
      puts = tariffs.puts;
      adds = lines.adds;
    }
