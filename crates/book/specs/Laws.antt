-- What an overlap refusal names, and what a written sheet reads back to, in the words of the subject.
use Rattle.std.specs.Prelude.{◌≡◌, ℕ, ◌≤◌, List, map}
use Rattle.lines.specs.declared.states.Line.{Line}
use Rattle.classes.specs.Outcomes.{accepted}
use Rattle.lines.specs.declared.states.LineState.{LineState}
use Rattle.lines.specs.declared.states.LineState.TheVariants.{Free, Live, Withdrawn}
use Rattle.lines.specs.Lines.{Overlap}
use Rattle.contents.specs.declared.contents.Contents.{Contents}
use Rattle.contents.specs.declared.contents.Phase.TheVariants.{Draft}
use Rattle.contents.specs.Contents.{line_at}
use Rattle.sheet.specs.Reading.{sheet_outcome}

-- line n is live, overlaps the line, and no lower live line does
pub record LowestOverlap (b : Contents) (l : Line) (n : ℕ) : Type 0 where
  pub line : Line
  pub live : line_at b n ≡ Live line
  pub overlap : Overlap b.counts l line
  pub lowest : (m : ℕ) (y : Line) → line_at b m ≡ Live y → Overlap b.counts l y → n ≤ m

-- a withdrawn line is not on the sheet
abbrev pub live_only : LineState → LineState
live_only Free = Free
live_only (Live l) = Live l
live_only (Withdrawn l) = Free

-- what a book's sheet holds: a draft with the book's version, counts, tariffs and live lines, and nothing else
abbrev pub on_sheet : Contents → Contents
on_sheet b = record { phase = Draft; version = b.version; counts = b.counts; tariffs = b.tariffs; lines = record { states = map live_only b.lines.states } }

-- the bytes are read as just that
abbrev pub ReadsBack : Contents → List ℕ → Type 0
ReadsBack b bytes = sheet_outcome bytes ≡ accepted (on_sheet b)
