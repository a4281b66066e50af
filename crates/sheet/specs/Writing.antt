-- The tariff sheet of a book: an opening, its tariffs, its live lines, an end.
use Rattle.std.specs.Prelude.{ℕ, ◌+◌, not, List, [], ◌∷◌, ◌++◌, length, Some, None, Option, nat_le}
use Rattle.tariff.specs.declared.terms.Tariff.{Tariff}
use Rattle.tariff.specs.Ranges.{numbers_of}
use Rattle.lines.specs.declared.states.Line.{Line}
use Rattle.lines.specs.declared.states.LineState.{LineState}
use Rattle.lines.specs.declared.states.LineState.TheVariants.{Free, Live, Withdrawn}
use Rattle.contents.specs.declared.contents.Contents.{Contents}
use Rattle.contents.specs.declared.contents.Phase.TheVariants.{Blank}
use Rattle.contents.specs.Contents.{in_phase}
use Rattle.contents.specs.Calls.{Refused, unless}
use Rattle.sheet.specs.Records.{opening_record, tariff_record, line_record, end_record}

-- a live line is on the sheet, and a withdrawn one is not
abbrev pub live_line : LineState → Option Line
live_line Free = None
live_line (Live l) = Some l
live_line (Withdrawn l) = None

-- the record of a tariff that was put; none of one that was not
abbrev pub tariff_bytes : Option Tariff → ℕ → List ℕ
tariff_bytes None n = []
tariff_bytes (Some t) n = tariff_record n (numbers_of t)

-- the record of a line, if there is one
abbrev pub line_held_bytes : Option Line → ℕ → List ℕ
line_held_bytes None n = []
line_held_bytes (Some l) n = line_record n l

abbrev pub line_bytes : LineState → ℕ → List ℕ
line_bytes s n = line_held_bytes (live_line s) n

-- how long the record is, if there is one
abbrev pub tariff_size : Option Tariff → ℕ
tariff_size None = 0
tariff_size (Some t) = 31

abbrev pub line_size : LineState → ℕ
line_size Free = 0
line_size (Live l) = 36
line_size (Withdrawn l) = 0

-- the records of a table, its numbers counted from n
abbrev pub table_bytes : {A : Type 0} → (A → ℕ → List ℕ) → ℕ → List A → List ℕ
table_bytes bytes n [] = []
table_bytes bytes n (x ∷ xs) = bytes x n ++ table_bytes bytes (n + 1) xs

unfoldable pub sheet_of : Contents → List ℕ
sheet_of b =
    opening_record b.version b.counts
    ++ (table_bytes tariff_bytes 1 b.tariffs ++ (table_bytes line_bytes 1 b.lines.states ++ end_record))

-- write: refused in a blank book, and where the space is too short
abbrev pub write_refusal : Contents → ℕ → Option Refused
write_refusal b space =
    unless (not (in_phase Blank b)) (1, [])
    (unless (nat_le (length (sheet_of b)) space) (21, []) None)
