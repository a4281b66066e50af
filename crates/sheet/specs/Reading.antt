-- Reading a tariff sheet, record by record from the front: an opening, tariffs with rising numbers, lines with rising
-- numbers, an end. Each record is a call on the contents read so far, and is refused where the call is.
use Rattle.std.specs.Prelude.{ℕ, zero, suc, ◌+◌, Bool, true, false, cond, List, [], ◌∷◌, length, take, Some, None, Option, nat_le, nat_lt}
use Rattle.classes.specs.Outcomes.{Outcome, accepted, refusal}
use Rattle.tariff.specs.Ranges.{checked}
use Rattle.contents.specs.declared.contents.Contents.{Contents}
use Rattle.contents.specs.declared.contents.Phase.TheVariants.{Blank}
use Rattle.contents.specs.Contents.{new_contents, in_phase, with_version}
use Rattle.contents.specs.Calls.{Refused, unless, open_refusal, opened, put_refusal, stored, add_refusal, added}
use Rattle.sheet.specs.declared.records.Kind.{Kind}
use Rattle.sheet.specs.declared.records.Kind.TheVariants.{Opening, Tariff, Line, End}
use Rattle.sheet.specs.declared.reading.Draft.{Draft}
use Rattle.sheet.specs.declared.reading.Stage.{Stage}
use Rattle.sheet.specs.declared.reading.Stage.TheVariants.{Start, Tariffs, Lines, Ended}
use Rattle.sheet.specs.Records.{kind_coded, body_length, opening_version, opening_counts, body_tariff, body_terms, body_number, body_line}
use Rattle.sheet.specs.Refusals.{placed}

-- nothing read yet
abbrev pub new_draft : Draft
new_draft = record { contents = new_contents; stage = Start; last_tariff = None; last_line = None }

-- which kinds may come at each stage
abbrev pub due : Stage → Kind → Bool
due Start Opening = true
due Start Tariff = false
due Start Line = false
due Start End = false
due Tariffs Opening = false
due Tariffs Tariff = true
due Tariffs Line = true
due Tariffs End = true
due Lines Opening = false
due Lines Tariff = false
due Lines Line = true
due Lines End = true
due Ended Opening = false
due Ended Tariff = false
due Ended Line = false
due Ended End = false

abbrev pub not_ended : Stage → Bool
not_ended Start = true
not_ended Tariffs = true
not_ended Lines = true
not_ended Ended = false

-- the number is above the one before it, if there is one
abbrev pub above : Option ℕ → ℕ → Bool
above None n = true
above (Some m) n = nat_lt m n

-- what the book refuses is refused with the book's number
abbrev pub fields_refusal : Option Refused → Option Refused
fields_refusal None = None
fields_refusal (Some r) = Some (20, r.0 ∷ [])

-- why a body is refused, its kind being due and its length right
abbrev pub body_refusal : Draft → Kind → List ℕ → Option Refused
body_refusal d Opening body = fields_refusal (open_refusal d.contents (opening_counts body))
body_refusal d Tariff body =
    unless (above d.last_tariff (body_tariff body)) (19, [])
    (fields_refusal (put_refusal d.contents (body_tariff body) (body_terms body)))
body_refusal d Line body =
    unless (above d.last_line (body_number body)) (19, [])
    (fields_refusal (add_refusal d.contents (body_number body) (body_line body)))
body_refusal d End body = None

-- what a body makes of the draft
abbrev pub body_taken : Draft → Kind → List ℕ → Draft
body_taken d Opening body = record {
  contents = with_version (opening_version body) (opened (opening_counts body) d.contents);
  stage = Tariffs;
  last_tariff = d.last_tariff;
  last_line = d.last_line;
}
body_taken d Tariff body = record {
  contents = stored (body_tariff body) (checked (body_terms body)) d.contents;
  stage = Tariffs;
  last_tariff = Some (body_tariff body);
  last_line = d.last_line;
}
body_taken d Line body = record {
  contents = added (body_number body) (body_line body) d.contents;
  stage = Lines;
  last_tariff = d.last_tariff;
  last_line = Some (body_number body);
}
body_taken d End body = record {
  contents = d.contents;
  stage = Ended;
  last_tariff = d.last_tariff;
  last_line = d.last_line;
}

-- a record of a kind that is due, before the bytes that follow its kind byte
abbrev pub due_refusal : Draft → Kind → List ℕ → Option Refused
due_refusal d k rest = unless (nat_le (body_length k) (length rest)) (17, []) (body_refusal d k (take (body_length k) rest))

abbrev pub due_taken : Draft → Kind → List ℕ → Draft
due_taken d k rest = body_taken d k (take (body_length k) rest)

-- a record of this kind
abbrev pub kind_refusal : Draft → Option Kind → List ℕ → Option Refused
kind_refusal d None rest = Some (18, [])
kind_refusal d (Some k) rest = unless (due d.stage k) (19, []) (due_refusal d k rest)

abbrev pub kind_taken : Draft → Option Kind → List ℕ → Draft
kind_taken d None rest = d
kind_taken d (Some k) rest = due_taken d k rest

abbrev pub kind_length : Option Kind → ℕ
kind_length None = 0
kind_length (Some k) = body_length k

-- a record by its kind byte; nothing may follow the end
abbrev pub record_refusal : Draft → ℕ → List ℕ → Option Refused
record_refusal d code rest = unless (not_ended d.stage) (19, []) (kind_refusal d (kind_coded code) rest)

-- a refusal by its place, or what comes of the rest
abbrev pub placed_or : ℕ → Option Refused → Outcome Contents → Outcome Contents
placed_or place (Some r) rest = refusal (placed place r)
placed_or place None rest = rest

-- an input that ends before the end record is cut short where it ends
abbrev pub finished : Draft → ℕ → Outcome Contents
finished d place = cond (not_ended d.stage) (refusal (17, place ∷ [])) (accepted d.contents)

-- reading on from a place, past so many bytes of the body of the record before it
unfoldable pub read_on : Draft → ℕ → ℕ → List ℕ → Outcome Contents
read_on d place skipped [] = finished d place
read_on d place (suc skipped) (byte ∷ bytes) = read_on d (place + 1) skipped bytes
read_on d place zero (byte ∷ bytes) =
    placed_or place (record_refusal d byte bytes)
    (read_on (kind_taken d (kind_coded byte) bytes) (place + 1) (kind_length (kind_coded byte)) bytes)

abbrev pub sheet_outcome : List ℕ → Outcome Contents
sheet_outcome bytes = read_on new_draft 0 0 bytes

-- read: refused unless the book is blank, and where the sheet is
abbrev pub refused_in : Outcome Contents → Option Refused
refused_in (accepted b) = None
refused_in (refusal r) = Some r

-- what is read of a sheet that is not refused
abbrev pub contents_in : Outcome Contents → Contents
contents_in (accepted b) = b
contents_in (refusal r) = new_contents

abbrev pub sheet_contents : List ℕ → Contents
sheet_contents bytes = contents_in (sheet_outcome bytes)

abbrev pub read_refusal : Contents → List ℕ → Option Refused
read_refusal b bytes = unless (in_phase Blank b) (1, []) (refused_in (sheet_outcome bytes))
