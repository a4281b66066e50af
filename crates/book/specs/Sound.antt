-- What is true of every book, in whatever order it was edited: no two live lines claim the same combination, every line
-- rests on a tariff and on classes that the book has, and an issued book has no gap.
use Rattle.std.specs.Prelude.{◌≡◌, ℕ, true, false, length, Some}
use Rattle.classes.specs.declared.refusal.Classes.{Classes}
use Rattle.tariff.specs.declared.terms.Tariff.{Tariff}
use Rattle.tariff.specs.Ranges.{numbers_of, InRange}
use Rattle.lines.specs.declared.states.Line.{Line}
use Rattle.lines.specs.declared.states.LineState.TheVariants.{Live, Withdrawn}
use Rattle.lines.specs.Sets.{counts_in_range}
use Rattle.lines.specs.Lines.{Combination, claims, line_fits}
use Rattle.gaps.specs.Gaps.{NoGap}
use Rattle.contents.specs.declared.contents.Contents.{Contents}
use Rattle.contents.specs.declared.contents.Phase.TheVariants.{Blank, Issued}
use Rattle.contents.specs.Contents.{in_phase, new_contents, tariff_at, line_at}

-- at most one live line claims any combination
abbrev pub AtMostOne : Contents → Type 0
AtMostOne b =
    (k : Classes) → Combination b.counts k → (m n : ℕ) (x y : Line)
    → line_at b m ≡ Live x → line_at b n ≡ Live y → claims x k ≡ true → claims y k ≡ true → m ≡ n

-- the line's tariff was put, and its class sets fit the counts
pub record Supported (b : Contents) (l : Line) : Type 0 where
  pub tariff : Tariff
  pub put : tariff_at b l.tariff ≡ Some tariff
  pub fits : line_fits b.counts l ≡ true

pub record Sound (b : Contents) : Type 0 where
  pub apart : AtMostOne b
  pub live : (n : ℕ) (l : Line) → line_at b n ≡ Live l → Supported b l
  pub withdrawn : (n : ℕ) (l : Line) → line_at b n ≡ Withdrawn l → Supported b l
  pub in_range : (n : ℕ) (t : Tariff) → tariff_at b n ≡ Some t → InRange (numbers_of t)
  pub blank : in_phase Blank b ≡ true → b ≡ new_contents
  pub counted : in_phase Blank b ≡ false → counts_in_range b.counts ≡ true
  pub whole : in_phase Issued b ≡ true → NoGap b.counts b.lines.states
  pub tariff_places : length b.tariffs ≡ 64
  pub line_places : length b.lines.states ≡ 256
