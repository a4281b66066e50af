-- Overlaps and gaps: what the search for one finds, as a condition on the live lines.
use Rattle.std.proofs.Common.{◌≡◌, ℕ, true, Some, None, Option, refl, arith}
use Rattle.classes.specs.declared.refusal.Classes.{Classes}
use Rattle.classes.proofs.Clash.{clash}
use Rattle.lines.specs.declared.states.Line.{Line}
use Rattle.lines.specs.declared.states.LineState.TheVariants.{Withdrawn}
use Rattle.lines.specs.Sets.{counts_in_range}
use Rattle.lines.specs.Lines.{line_fits}
use Rattle.lines.specs.Tables.{first_overlap}
use Rattle.gaps.specs.Gaps.{first_gap, NoGap}
use Rattle.gaps.proofs.Meaning.{no_gap, first_gap_found}
use Rattle.contents.specs.declared.contents.Contents.{Contents}
use Rattle.contents.specs.declared.contents.Phase.TheVariants.{Draft}
use Rattle.contents.specs.Contents.{line_at}
use Rattle.contents.specs.Calls.{overlap_with, overlap_refusal, gap_with, in_the_way}
use Rattle.book.specs.Sound.{Sound}
use Rattle.book.proofs.Keeps.{draft_only, clear_of_lines}
use Rattle.book.proofs.Refusing.{lowest_overlap}
use Rattle.law.specs.Conditions.{Clear}
use Rattle.law.proofs.Rows.{NoRefusal}
use Rattle.law.proofs.Tests.{phase_tested}

-- no live line is in the way of a line exactly when it shares no combination with one
pub clear_tested : (b : Contents) (l : Line) → counts_in_range b.counts ≡ true → line_fits b.counts l ≡ true → NoRefusal (overlap_refusal b l) (Clear b l)
clear_tested b l range fit = (
  λ none m y live o. clear_of_lines b l none m y live o.shared o.combination o.by_first o.by_second,
  λ clear. by clear (first_overlap b.lines.states l) refl,
)
  where
    by : Clear b l → (o : Option ℕ) → overlap_refusal b l ≡ overlap_with o → overlap_refusal b l ≡ None
    by clear None e = e
    by clear (Some n) e = let found = lowest_overlap b l n range fit e in absurd (clear n found.line found.live found.overlap)

-- the counts of a draft are in range
pub draft_counts : (b : Contents) → Sound b → b.phase ≡ Draft → counts_in_range b.counts ≡ true
draft_counts b s draft = s.counted (draft_only b ((phase_tested Draft b).1 draft)).0

-- what is in the way of a withdrawn line
pub way_tested : (b : Contents) (n : ℕ) (l : Line) → Sound b → b.phase ≡ Draft → line_at b n ≡ Withdrawn l → NoRefusal (in_the_way b (line_at b n)) (Clear b l)
way_tested b n l s draft at = rw at (clear_tested b l (draft_counts b s draft) (s.withdrawn n l at).fits)

-- there is no gap exactly when every combination is claimed
pub gap_tested : (b : Contents) → NoRefusal (gap_with (first_gap b.counts b.lines.states)) (NoGap b.counts b.lines.states)
gap_tested b = by (first_gap b.counts b.lines.states) refl
  where
    by : (o : Option Classes) → first_gap b.counts b.lines.states ≡ o → NoRefusal (gap_with o) (NoGap b.counts b.lines.states)
    by None e = (λ _. no_gap b.counts b.lines.states e, λ _. refl)
    by (Some k) e = (
      λ none. clash cc,
      λ whole. let gap = first_gap_found b.counts b.lines.states k e in absurd (gap.unclaimed (whole k gap.combination)),
    )
