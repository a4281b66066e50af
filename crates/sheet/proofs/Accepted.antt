-- An acceptable sheet is accepted: each of its records is read, and holds what it was made of.
use Rattle.std.proofs.Common.{◌≡◌, ℕ, ◌+◌, ◌*◌, ◌^◌, ◌<◌, ◌≤◌, true, ltb, leb, List, [], ◌∷◌, ◌++◌, length, take, is_some, Some, None, Option, sym, refl, ap, ◌∙◌, subst, arith, pow_mono}
use Rattle.std.proofs.lemmas.List.{append_assoc, take_at, drop_at, length-append}
use Rattle.std.proofs.lemmas.Bool.{and_parts, leb-true, ltb-true, lt-ltb, false≢true}
use Rattle.classes.specs.Outcomes.{accepted}
use Rattle.tariff.specs.declared.terms.Tariff.{Tariff}
use Rattle.tariff.specs.declared.terms.Terms.{Terms}
use Rattle.tariff.specs.Ranges.{checked}
use Rattle.tariff.proofs.Ranges.{checked_exact}
use Rattle.lines.specs.declared.sets.ClassSet.{ClassSet}
use Rattle.lines.specs.declared.states.Line.{Line}
use Rattle.lines.specs.Sets.{set_fits, count_in_range, counts_in_range}
use Rattle.lines.specs.Lines.{line_fits}
use Rattle.lines.proofs.Overlaps.{four}
use Rattle.contents.specs.declared.contents.Contents.{Contents}
use Rattle.contents.specs.declared.contents.Phase.TheVariants.{Blank, Draft as InDraft}
use Rattle.contents.specs.Contents.{in_phase, new_contents, with_version, tariff_number, line_number, tariff_at, line_at}
use Rattle.contents.specs.Calls.{unless, is_free, open_refusal, opened, put_refusal, stored, add_refusal, added, overlap_refusal}
use Rattle.contents.proofs.Refused.{passed}
use Rattle.sheet.specs.declared.records.Kind.{Kind}
use Rattle.sheet.specs.declared.records.Kind.TheVariants.{Opening, Tariff as TariffKind, Line as LineKind, End}
use Rattle.sheet.specs.declared.reading.Draft.{Draft}
use Rattle.sheet.specs.declared.reading.Stage.TheVariants.{Tariffs, Lines}
use Rattle.sheet.specs.Acceptable.{tariff_records, line_records, RisingFrom, PutInTurn, AddedInTurn, Acceptable}
use Rattle.sheet.specs.Records.{kind_coded, body_length, tariff_record, line_record, end_record, opening_counts}
use Rattle.sheet.specs.Reading.{not_ended, due, above, fields_refusal, body_refusal, body_taken, kind_taken, kind_length, placed_or, read_on, new_draft, sheet_outcome}
use Rattle.sheet.proofs.Codec.{TermsFit, LineFits, tariff_body, line_body, tariff_held, line_held}
use Rattle.sheet.proofs.Drafts.{whole, coded}
use Rattle.sheet.proofs.Lengths.{length_tariff_record, length_line_record}
use Rattle.sheet.proofs.Remaining.{low_after}
use Rattle.sheet.proofs.Walk.{read_past}

-- one record is taken
record_read : (d : Draft) (place code : ℕ) (kind : Kind) (body rest : List ℕ) → not_ended d.stage ≡ true → kind_coded code ≡ Some kind → due d.stage kind ≡ true → length body ≡ body_length kind → body_refusal d kind body ≡ None → read_on d place 0 (code ∷ (body ++ rest)) ≡ read_on (body_taken d kind body) (place + 1 + body_length kind) 0 rest
unfolding read_on
record_read d place code kind body rest going code_of_kind is_due size none =
    let cut : body ≡ take (body_length kind) (body ++ rest) = sym (take_at body rest (body_length kind) size) in
    let fits : body_length kind ≤ length (body ++ rest) = omega (arith, length-append body rest, size) in
    let t = coded d code (body ++ rest) kind going code_of_kind is_due in
    let w = whole d kind (body ++ rest) body fits cut in
    let next = kind_taken d (kind_coded code) (body ++ rest) in
    ap (λ w. placed_or place w (read_on next (place + 1) (kind_length (kind_coded code)) (body ++ rest))) (t.why ∙ w.why ∙ none)
    ∙ ap (λ n. read_on next (place + 1) n (body ++ rest)) t.size
    ∙ ap (λ x. read_on x (place + 1) (body_length kind) (body ++ rest)) (t.taken ∙ w.taken)
    ∙ read_past (body_taken d kind body) (place + 1) (body_length kind) (body ++ rest) fits
    ∙ ap (read_on (body_taken d kind body) (place + 1 + body_length kind) 0) (drop_at body rest (body_length kind) size)

is_above : (last : Option ℕ) (n : ℕ) → low_after last ≤ n → above last n ≡ true
is_above None n h = refl
is_above (Some m) n h = lt-ltb m n (omega arith)

-- numbers that put and add take fit their fields
terms_fit : (b : Contents) (n : ℕ) (p : Terms) → put_refusal b n p ≡ None → TermsFit p
terms_fit b n p e =
    let phase = passed (in_phase InDraft b) (1, []) _ e in
    let number = passed (tariff_number n) (3, []) _ phase.1 in
    let made = passed (is_some (checked p)) (4, []) None number.1 in
    by (checked p) refl made.0
  where
    by : (o : Option Tariff) → checked p ≡ o → is_some o ≡ true → TermsFit p
    by None at h = absurd (false≢true h)
    by (Some t) at h =
        let s = (checked_exact p t at).0.sums in
        record {
          unit = omega (arith, s.unit_high);
          rate = omega (arith, s.rate_high);
          threshold = omega (arith, s.threshold_high);
          offset = omega (arith, s.offset_high);
          minimum = omega (arith, s.minimum_high, s.cap_high);
          most = omega (arith, s.cap_high);
          vat = omega (arith, s.vat_high);
        }

set_fits_field : (count : ℕ) (s : ClassSet) → count_in_range count ≡ true → set_fits count s ≡ true → s.0 < 256 ^ 8
set_fits_field count s range fits =
    let high = leb-true count 64 (and_parts (leb 1 count) (leb count 64) range).1 in
    let below = ltb-true s.0 (2 ^ count) (and_parts (ltb 0 s.0) (ltb s.0 (2 ^ count)) fits).1 in
    omega (arith, below, pow_mono high)

line_fits_fields : (b : Contents) (n : ℕ) (l : Line) → counts_in_range b.counts ≡ true → add_refusal b n l ≡ None → LineFits n l
line_fits_fields b n l range e =
    let phase = passed (in_phase InDraft b) (1, []) _ e in
    let number = passed (line_number n) (5, []) _ phase.1 in
    let free = passed (is_free (line_at b n)) (6, []) _ number.1 in
    let tariff = passed (tariff_number l.tariff) (3, []) _ free.1 in
    let put = passed (is_some (tariff_at b l.tariff)) (9, []) _ tariff.1 in
    let fit = passed (line_fits b.counts l) (10, []) (overlap_refusal b l) put.1 in
    let counts = four _ _ _ _ range in
    let sets = four _ _ _ _ fit.0 in
    let high = leb-true n 256 (and_parts (leb 1 n) (leb n 256) number.0).1 in
    record {
      number = omega (arith, high);
      vehicles = set_fits_field b.counts.vehicles l.vehicles counts.0 sets.0;
      times = set_fits_field b.counts.times l.times counts.1 sets.1;
      locations = set_fits_field b.counts.locations l.locations counts.2 sets.2;
      users = set_fits_field b.counts.users l.users counts.3 sets.3;
    }

-- a line's record is taken
line_read : (d : Draft) (place n : ℕ) (l : Line) (rest : List ℕ) → not_ended d.stage ≡ true → due d.stage LineKind ≡ true → counts_in_range d.contents.counts ≡ true → low_after d.last_line ≤ n → add_refusal d.contents n l ≡ None → read_on d place 0 (line_record n l ++ rest) ≡ read_on (record { contents = added n l d.contents; stage = Lines; last_tariff = d.last_tariff; last_line = Some n }) (place + 1 + 35) 0 rest
unfolding line_record
line_read d place n l rest going is_due range low none =
    let body = line_body n l in
    let held = line_held n l (line_fits_fields d.contents n l range none) in
    let size : length body ≡ 35 = omega (arith, length_line_record n l) in
    let tests : body_refusal d LineKind body ≡ unless (above d.last_line n) (19, []) (fields_refusal (add_refusal d.contents n l)) = λ i. unless (above d.last_line (held.0 i)) (19, []) (fields_refusal (add_refusal d.contents (held.0 i) (held.1 i))) in
    let passes = ap (λ t. unless t (19, []) (fields_refusal (add_refusal d.contents n l))) (is_above d.last_line n low) ∙ ap fields_refusal none in
    let taken : body_taken d LineKind body ≡ record { contents = added n l d.contents; stage = Lines; last_tariff = d.last_tariff; last_line = Some n } = λ i. record { contents = added (held.0 i) (held.1 i) d.contents; stage = Lines; last_tariff = d.last_tariff; last_line = Some (held.0 i) } in
    record_read d place 3 LineKind body rest going refl is_due size (tests ∙ passes)
    ∙ ap (λ x. read_on x (place + 1 + 35) 0 rest) taken

-- a tariff's record is taken
tariff_read : (d : Draft) (place n : ℕ) (p : Terms) (rest : List ℕ) → not_ended d.stage ≡ true → due d.stage TariffKind ≡ true → low_after d.last_tariff ≤ n → put_refusal d.contents n p ≡ None → read_on d place 0 (tariff_record n p ++ rest) ≡ read_on (record { contents = stored n (checked p) d.contents; stage = Tariffs; last_tariff = Some n; last_line = d.last_line }) (place + 1 + 30) 0 rest
unfolding tariff_record
tariff_read d place n p rest going is_due low none =
    let body = tariff_body n p in
    let held = tariff_held n p (terms_fit d.contents n p none) in
    let size : length body ≡ 30 = omega (arith, length_tariff_record n p) in
    let tests : body_refusal d TariffKind body ≡ unless (above d.last_tariff n) (19, []) (fields_refusal (put_refusal d.contents n p)) = λ i. unless (above d.last_tariff (held.0 i)) (19, []) (fields_refusal (put_refusal d.contents (held.0 i) (held.1 i))) in
    let passes = ap (λ t. unless t (19, []) (fields_refusal (put_refusal d.contents n p))) (is_above d.last_tariff n low) ∙ ap fields_refusal none in
    let taken : body_taken d TariffKind body ≡ record { contents = stored n (checked p) d.contents; stage = Tariffs; last_tariff = Some n; last_line = d.last_line } = λ i. record { contents = stored (held.0 i) (checked (held.1 i)) d.contents; stage = Tariffs; last_tariff = Some (held.0 i); last_line = d.last_line } in
    record_read d place 2 TariffKind body rest going refl is_due size (tests ∙ passes)
    ∙ ap (λ x. read_on x (place + 1 + 30) 0 rest) taken

-- the lines, and the end
lines_read : (lines : List (ℕ × Line)) (d : Draft) (place : ℕ) (after : Contents) → not_ended d.stage ≡ true → due d.stage LineKind ≡ true → due d.stage End ≡ true → counts_in_range d.contents.counts ≡ true → RisingFrom (low_after d.last_line) lines → AddedInTurn d.contents lines after → read_on d place 0 (line_records lines ++ end_record) ≡ accepted after
unfolding read_on
lines_read [] d place after going line-due end-due range rise adds =
    record_read d place 4 End [] [] going refl end-due refl refl ∙ ap accepted adds
lines_read (e ∷ lines) d place after going line-due end-due range rise adds =
    ap (read_on d place 0) (append_assoc (line_record e.0 e.1) (line_records lines) end_record)
    ∙ line_read d place e.0 e.1 (line_records lines ++ end_record) going line-due range rise.0 adds.0
    ∙ lines_read lines (record { contents = added e.0 e.1 d.contents; stage = Lines; last_tariff = d.last_tariff; last_line = Some e.0 }) (place + 1 + 35) after refl refl refl range rise.1 adds.1

-- put leaves the counts alone
counts_kept : (n : ℕ) (o : Option Tariff) (b : Contents) → (stored n o b).counts ≡ b.counts
counts_kept n None b = refl
counts_kept n (Some t) b = refl

-- the tariffs, and then the lines
tariffs_read : (tariffs : List (ℕ × Terms)) (lines : List (ℕ × Line)) (b between after : Contents) (t l : Option ℕ) (place : ℕ) → counts_in_range b.counts ≡ true → RisingFrom (low_after t) tariffs → RisingFrom (low_after l) lines → PutInTurn b tariffs between → AddedInTurn between lines after → read_on (record { contents = b; stage = Tariffs; last_tariff = t; last_line = l }) place 0 (tariff_records tariffs ++ (line_records lines ++ end_record)) ≡ accepted after
tariffs_read [] lines b between after t l place range rise lines_rise puts adds =
    lines_read lines (record { contents = b; stage = Tariffs; last_tariff = t; last_line = l }) place after refl refl refl range lines_rise (subst (λ x. AddedInTurn x lines after) (sym puts) adds)
tariffs_read (e ∷ tariffs) lines b between after t l place range rise lines_rise puts adds =
    let d : Draft = record { contents = b; stage = Tariffs; last_tariff = t; last_line = l } in
    ap (read_on d place 0) (append_assoc (tariff_record e.0 e.1) (tariff_records tariffs) (line_records lines ++ end_record))
    ∙ tariff_read d place e.0 e.1 (tariff_records tariffs ++ (line_records lines ++ end_record)) refl refl rise.0 puts.0
    ∙ tariffs_read tariffs lines (stored e.0 (checked e.1) b) between after (Some e.0) l (place + 1 + 30) (ap counts_in_range (counts_kept e.0 (checked e.1) b) ∙ range) rise.1 lines_rise puts.1 adds

-- an acceptable sheet is accepted
pub acceptable_accepted : (bytes : List ℕ) (b : Contents) → Acceptable bytes b → sheet_outcome bytes ≡ accepted b
acceptable_accepted bytes b a =
    let counts = a.counts in
    let range = (passed (counts_in_range counts) (2, []) None (passed (in_phase Blank new_contents) (1, []) (unless (counts_in_range counts) (2, []) None) a.opens).1).0 in
    let body = a.version ∷ counts.vehicles ∷ counts.times ∷ counts.locations ∷ counts.users ∷ [] in
    let rest = tariff_records a.tariffs ++ (line_records a.lines ++ end_record) in
    let opening : Draft = record { contents = with_version a.version (opened counts new_contents); stage = Tariffs; last_tariff = None; last_line = None } in
    let one : (x : ℕ) → 0 * 256 + x ≡ x = λ x. omega arith in
    let held : opening_counts body ≡ counts = λ i. record { vehicles = one counts.vehicles i; times = one counts.times i; locations = one counts.locations i; users = one counts.users i } in
    let none : body_refusal new_draft Opening body ≡ None = ap (λ c. fields_refusal (open_refusal new_contents c)) held ∙ ap fields_refusal a.opens in
    let taken : body_taken new_draft Opening body ≡ opening = λ i. record { contents = with_version (one a.version i) (opened (held i) new_contents); stage = Tariffs; last_tariff = None; last_line = None } in
    ap sheet_outcome a.sheet
    ∙ record_read new_draft 0 1 Opening body rest refl refl refl refl none
    ∙ ap (λ x. read_on x (0 + 1 + 5) 0 rest) taken
    ∙ tariffs_read a.tariffs a.lines (with_version a.version (opened counts new_contents)) a.with_tariffs b None None (0 + 1 + 5) range a.tariffs_rise a.lines_rise a.puts a.adds
