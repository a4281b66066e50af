-- What a refusal's number says: the tests before it were passed, and its values are what they are said to be.
use Rattle.std.proofs.Common.{◌≡◌, ℕ, ◌+◌, Bool, true, ltb, [], ◌∷◌, is_some, Some, None, Option, refl, ap, subst, ⊎_elim, arith}
use Rattle.std.proofs.Math.Bool.{Bool-set}
use Rattle.std.proofs.Math.Logic.{∥∥₁_elim}
use Rattle.std.proofs.lemmas.Bool.{both_ways, cases_lt, false≢true}
use Rattle.classes.specs.declared.refusal.Classes.{Classes}
use Rattle.classes.specs.Outcomes.{accepted, refusal}
use Rattle.classes.proofs.Clash.{clash}
use Rattle.lines.specs.declared.states.Line.{Line}
use Rattle.lines.specs.declared.states.LineState.{LineState}
use Rattle.lines.specs.declared.states.LineState.TheVariants.{Free, Live, Withdrawn}
use Rattle.lines.specs.Sets.{counts_in_range}
use Rattle.lines.specs.Lines.{line_fits, lines_meet, state_meets}
use Rattle.lines.specs.Tables.{first_overlap, Lowest}
use Rattle.gaps.specs.Gaps.{first_gap, NoGap, FirstGap}
use Rattle.lines.proofs.Numbers.{lowest_found}
use Rattle.lines.proofs.Overlaps.{meet_overlap, overlap_meet}
use Rattle.gaps.proofs.Meaning.{no_gap, first_gap_found}
use Rattle.contents.specs.declared.contents.Contents.{Contents}
use Rattle.contents.specs.declared.contents.Phase.TheVariants.{Draft}
use Rattle.contents.specs.Contents.{in_phase, tariff_at, line_at, line_number, tariff_number}
use Rattle.contents.specs.Refusals.{gap_values}
use Rattle.contents.specs.Calls.{answered, is_free, is_withdrawn, overlap_with, gap_with, overlap_refusal, in_the_way, add_refusal, restore_refusal, issue_refusal}
use Rattle.book.specs.Laws.{LowestOverlap}
use Rattle.book.specs.Sound.{Sound}
use Rattle.contents.proofs.Refused.{answered_refused, answered_accepted, passed, same_refusal, behind, without_gap}
use Rattle.book.proofs.Keeps.{draft_only}

overlapping : (o : Option ℕ) (n : ℕ) → overlap_with o ≡ Some (11, n ∷ []) → o ≡ Some n
overlapping None n e = clash cc
overlapping (Some m) n e = let same = (same_refusal 11 11 (m ∷ []) (n ∷ []) e).1 in cc

pub meeting : (l : Line) (s : LineState) → state_meets l s ≡ true → (y : Line) × (s ≡ Live y) × (lines_meet l y ≡ true)
meeting l Free h = absurd (false≢true h)
meeting l (Live y) h = (y, refl, h)
meeting l (Withdrawn y) h = absurd (false≢true h)

-- the line that an overlap refusal names, of a line that fits the counts
pub lowest_overlap : (b : Contents) (l : Line) (n : ℕ) → counts_in_range b.counts ≡ true → line_fits b.counts l ≡ true → overlap_refusal b l ≡ Some (11, n ∷ []) → LowestOverlap b l n
lowest_overlap b l n range fit e =
    let found : Lowest (state_meets l) b.lines.states n = lowest_found (state_meets l) refl b.lines.states n (overlapping (first_overlap b.lines.states l) n e) in
    let here = meeting l (line_at b n) found.passes in
    record {
      line = here.0;
      live = here.1;
      overlap = meet_overlap b.counts l here.0 range fit here.2;
      lowest = λ m y live o. ⊎_elim
          (λ lt. absurd (both_ways (lines_meet l y) (rw live at (found.first m lt)) (overlap_meet b.counts l y o)))
          (λ le. le)
          (cases_lt m n);
    }

-- a test of a sound book comes out of the truncation
pub of_sound : (b : Contents) (test : Bool) → ∥ Sound b ∥₁ → (Sound b → test ≡ true) → test ≡ true
of_sound b test s f = ∥∥₁_elim s (Bool-set test true) f

pub add_overlap : (b : Contents) (number : ℕ) (l : Line) (n : ℕ) → ∥ Sound b ∥₁ → answered (add_refusal b number l) (tt {0}) ≡ refusal (11, n ∷ []) → LowestOverlap b l n
add_overlap b number l n s e =
    let phase = behind (in_phase Draft b) 1 11 [] _ _ (λ z. omega (arith, z)) (answered_refused (add_refusal b number l) (tt {0}) (11, n ∷ []) e) in
    let range = behind (line_number number) 5 11 [] _ _ (λ z. omega (arith, z)) phase.1 in
    let free = behind (is_free (line_at b number)) 6 11 [] _ _ (λ z. omega (arith, z)) range.1 in
    let tariff = behind (tariff_number l.tariff) 3 11 [] _ _ (λ z. omega (arith, z)) free.1 in
    let put = behind (is_some (tariff_at b l.tariff)) 9 11 [] _ _ (λ z. omega (arith, z)) tariff.1 in
    let fit = behind (line_fits b.counts l) 10 11 [] _ _ (λ z. omega (arith, z)) put.1 in
    lowest_overlap b l n (of_sound b (counts_in_range b.counts) s (λ k. k.counted (draft_only b phase.0).0)) fit.0 fit.1

pub restore_overlap : (b : Contents) (number : ℕ) (l : Line) (n : ℕ) → ∥ Sound b ∥₁ → line_at b number ≡ Withdrawn l → answered (restore_refusal b number) (tt {0}) ≡ refusal (11, n ∷ []) → LowestOverlap b l n
restore_overlap b number l n s at e =
    let phase = behind (in_phase Draft b) 1 11 [] _ _ (λ z. omega (arith, z)) (answered_refused (restore_refusal b number) (tt {0}) (11, n ∷ []) e) in
    let range = behind (line_number number) 5 11 [] _ _ (λ z. omega (arith, z)) phase.1 in
    let kept = behind (is_withdrawn (line_at b number)) 8 11 [] _ _ (λ z. omega (arith, z)) range.1 in
    let blocked : in_the_way b (Withdrawn l) ≡ Some (11, n ∷ []) = subst (λ x. in_the_way b x ≡ Some (11, n ∷ [])) at kept.1 in
    lowest_overlap b l n
    (of_sound b (counts_in_range b.counts) s (λ k. k.counted (draft_only b phase.0).0))
    (of_sound b (line_fits b.counts l) s (λ k. (k.withdrawn number l at).fits))
    blocked

gap_of : (o : Option Classes) (k : Classes) → gap_with o ≡ Some (12, gap_values k) → o ≡ Some k
gap_of None k e = clash cc
gap_of (Some j) k e =
    let values = (same_refusal 12 12 (gap_values j) (gap_values k) e).1 in
    let v : j.vehicle ≡ k.vehicle = cc in
    let t : j.time ≡ k.time = cc in
    let l : j.location ≡ k.location = cc in
    let u : j.user ≡ k.user = cc in
    let same : j ≡ k = λ i. record { vehicle = v i; time = t i; location = l i; user = u i } in
    ap (λ x. Some x) same

pub issue_gap : (b : Contents) (k : Classes) → answered (issue_refusal b) (b.version + 1) ≡ refusal (12, gap_values k) → FirstGap b.counts b.lines.states k
issue_gap b k e =
    let phase = behind (in_phase Draft b) 1 12 [] _ _ (λ z. omega (arith, z)) (answered_refused (issue_refusal b) (b.version + 1) (12, gap_values k) e) in
    let last = behind (ltb b.version 255) 13 12 [] _ _ (λ z. omega (arith, z)) phase.1 in
    first_gap_found b.counts b.lines.states k (gap_of (first_gap b.counts b.lines.states) k last.1)

pub issue_whole : (b : Contents) (v : ℕ) → answered (issue_refusal b) (b.version + 1) ≡ accepted v → NoGap b.counts b.lines.states
issue_whole b v e =
    let phase = passed (in_phase Draft b) (1, []) _ (answered_accepted (issue_refusal b) (b.version + 1) v e).0 in
    let last = passed (ltb b.version 255) (13, []) _ phase.1 in
    no_gap b.counts b.lines.states (without_gap (first_gap b.counts b.lines.states) last.1)
