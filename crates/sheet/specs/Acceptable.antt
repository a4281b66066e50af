-- Which sheets are read. A sheet is the records of some version, counts, rising tariffs and rising lines, and it is
-- acceptable where open, put and add take them in turn.
use Rattle.std.specs.Prelude.{◌≡◌, ℕ, ◌+◌, ◌≤◌, List, [], ◌∷◌, ◌++◌, None}
use Rattle.tariff.specs.declared.terms.Terms.{Terms}
use Rattle.tariff.specs.Ranges.{checked}
use Rattle.lines.specs.declared.sets.Counts.{Counts}
use Rattle.lines.specs.declared.states.Line.{Line}
use Rattle.contents.specs.declared.contents.Contents.{Contents}
use Rattle.contents.specs.Contents.{new_contents, with_version}
use Rattle.contents.specs.Calls.{open_refusal, opened, put_refusal, stored, add_refusal, added}
use Rattle.sheet.specs.Records.{opening_record, tariff_record, line_record, end_record}

-- the records of tariffs, each with its number
abbrev pub tariff_records : List (ℕ × Terms) → List ℕ
tariff_records [] = []
tariff_records (e ∷ rest) = tariff_record e.0 e.1 ++ tariff_records rest

-- the records of lines, each with its number
abbrev pub line_records : List (ℕ × Line) → List ℕ
line_records [] = []
line_records (e ∷ rest) = line_record e.0 e.1 ++ line_records rest

-- the records of a whole sheet
abbrev pub sheet_records : ℕ → Counts → List (ℕ × Terms) → List (ℕ × Line) → List ℕ
sheet_records version counts tariffs lines =
    opening_record version counts ++ (tariff_records tariffs ++ (line_records lines ++ end_record))

-- numbers that rise, the first of them at least this one
abbrev pub RisingFrom : {A : Type 0} → ℕ → List (ℕ × A) → Type 0
RisingFrom low [] = Unit {0}
RisingFrom low (e ∷ rest) = (low ≤ e.0) × RisingFrom (e.0 + 1) rest

abbrev pub Rising : {A : Type 0} → List (ℕ × A) → Type 0
Rising entries = RisingFrom 0 entries

-- put takes the tariffs in turn, and leaves these contents
abbrev pub PutInTurn : Contents → List (ℕ × Terms) → Contents → Type 0
PutInTurn b [] after = b ≡ after
PutInTurn b (e ∷ rest) after = (put_refusal b e.0 e.1 ≡ None) × PutInTurn (stored e.0 (checked e.1) b) rest after

-- add takes the lines in turn, and leaves these contents
abbrev pub AddedInTurn : Contents → List (ℕ × Line) → Contents → Type 0
AddedInTurn b [] after = b ≡ after
AddedInTurn b (e ∷ rest) after = (add_refusal b e.0 e.1 ≡ None) × AddedInTurn (added e.0 e.1 b) rest after

-- the bytes are an acceptable sheet, and these contents are what it holds
pub record Acceptable (bytes : List ℕ) (held : Contents) : Type 0 where
  pub version : ℕ
  pub counts : Counts
  pub tariffs : List (ℕ × Terms)
  pub lines : List (ℕ × Line)
  pub sheet : bytes ≡ sheet_records version counts tariffs lines
  pub tariffs_rise : Rising tariffs
  pub lines_rise : Rising lines
  pub opens : open_refusal new_contents counts ≡ None
  pub with_tariffs : Contents
  pub puts : PutInTurn (with_version version (opened counts new_contents)) tariffs with_tariffs
  pub adds : AddedInTurn with_tariffs lines held
