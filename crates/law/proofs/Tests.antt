-- The tests of the calls, and the facts that they decide.
use Rattle.std.proofs.Common.{◌≡◌, ℕ, ◌^◌, ◌≤◌, Bool, true, false, not, ◌&&◌, eqb, ltb, leb, is_some, Some, None, Decides, Option, refl, ap, arith}
use Rattle.std.proofs.lemmas.Bool.{both_ways, and_parts, and_from, false≢true, leb-true, le-leb}
use Rattle.std.proofs.lemmas.Bool.Decides.{nat_tests, Decides-like, Decides-and, Decides-ltb}
use Rattle.classes.specs.declared.usage.Usage.{Usage}
use Rattle.tariff.specs.declared.codes.Measure.{Measure}
use Rattle.tariff.specs.declared.codes.Rounding.{Rounding}
use Rattle.tariff.specs.declared.terms.Terms.{Terms}
use Rattle.tariff.specs.Codes.{choice_of, measure_coded, rounding_coded}
use Rattle.tariff.specs.Ranges.{checked, tariff_with, InRange}
use Rattle.tariff.proofs.Ranges.{checked_exact, sums_from}
use Rattle.lines.specs.declared.sets.ClassSet.{ClassSet}
use Rattle.lines.specs.declared.sets.Counts.{Counts}
use Rattle.lines.specs.declared.states.Line.{Line}
use Rattle.lines.specs.declared.states.LineState.{LineState}
use Rattle.lines.specs.declared.states.LineState.TheVariants.{Free, Live, Withdrawn}
use Rattle.lines.specs.Sets.{set_fits, counts_in_range}
use Rattle.lines.specs.Lines.{line_fits}
use Rattle.lines.proofs.Overlaps.{four, four_from}
use Rattle.contents.specs.declared.contents.Contents.{Contents}
use Rattle.contents.specs.declared.contents.Phase.{Phase}
use Rattle.contents.specs.declared.contents.Phase.TheVariants.{Blank, Draft, Issued}
use Rattle.contents.specs.Contents.{phase_number, in_phase}
use Rattle.contents.specs.Calls.{is_free, is_live, is_withdrawn}
use Rattle.charging.specs.Prices.{amounts_in_range}
use Rattle.law.specs.Conditions.{Within, CountsInRange, SetFits, LineFits, AmountsInRange}

-- phases with one number are one phase
same_phase : (p q : Phase) → eqb (phase_number p) (phase_number q) ≡ true → p ≡ q
same_phase Blank Blank h = refl
same_phase Blank Draft h = absurd (false≢true h)
same_phase Blank Issued h = absurd (false≢true h)
same_phase Draft Blank h = absurd (false≢true h)
same_phase Draft Draft h = refl
same_phase Draft Issued h = absurd (false≢true h)
same_phase Issued Blank h = absurd (false≢true h)
same_phase Issued Draft h = absurd (false≢true h)
same_phase Issued Issued h = refl

its_phase : (p : Phase) → eqb (phase_number p) (phase_number p) ≡ true
its_phase Blank = refl
its_phase Draft = refl
its_phase Issued = refl

pub phase_tested : (p : Phase) (b : Contents) → Decides (in_phase p b) (b.phase ≡ p)
phase_tested p b = (same_phase b.phase p, λ e. rw e (its_phase p))

pub other_phase_tested : (p : Phase) (b : Contents) → Decides (not (in_phase p b)) (b.phase ≡ p → ⊥)
other_phase_tested p b = (
  λ h e. both_ways (in_phase p b) (not_true (in_phase p b) h) ((phase_tested p b).1 e),
  λ other. not_false (in_phase p b) (λ h. other ((phase_tested p b).0 h)),
)
  where
    not_true : (t : Bool) → not t ≡ true → t ≡ false
    not_true true h = absurd (false≢true h)
    not_true false h = refl

    not_false : (t : Bool) → (t ≡ true → ⊥) → not t ≡ true
    not_false true h = absurd (h refl)
    not_false false h = refl

pub within_tested : (low high n : ℕ) → Decides (leb low n && leb n high) (Within low high n)
within_tested low high n = (
  λ h. let parts = and_parts (leb low n) (leb n high) h in record { at_least = leb-true low n parts.0; at_most = leb-true n high parts.1 },
  λ w. and_from (leb low n) (leb n high) (le-leb low n w.at_least) (le-leb n high w.at_most),
)

pub at_most_tested : (n high : ℕ) → Decides (leb n high) (n ≤ high)
at_most_tested n high = (leb-true n high, le-leb n high)

-- four tests in a row
four_tested : {P Q R S : Type 0} (p q r s : Bool) → Decides p P → Decides q Q → Decides r R → Decides s S → Decides (p && q && r && s) (P × Q × R × S)
four_tested p q r s dp dq dr ds = (
  λ h. let parts = four p q r s h in (dp.0 parts.0, dq.0 parts.1, dr.0 parts.2, ds.0 parts.3),
  λ f. four_from p q r s (dp.1 f.0) (dq.1 f.1) (dr.1 f.2) (ds.1 f.3),
)

pub counts_tested : (c : Counts) → Decides (counts_in_range c) (CountsInRange c)
counts_tested c =
    Decides-like (counts_in_range c)
    (λ f. record { vehicles = f.0; times = f.1; locations = f.2; users = f.3 })
    (λ f. (f.vehicles, f.times, f.locations, f.users))
    (four_tested _ _ _ _ (within_tested 1 64 c.vehicles) (within_tested 1 64 c.times) (within_tested 1 64 c.locations) (within_tested 1 64 c.users))

set_tested : (count : ℕ) (s : ClassSet) → Decides (set_fits count s) (SetFits count s)
set_tested count s =
    Decides-like (set_fits count s)
    (λ f. record { not_empty = f.0; none_above = f.1 })
    (λ f. (f.not_empty, f.none_above))
    (Decides-and (ltb 0 s.0) (ltb s.0 (2 ^ count)) (Decides-ltb 0 s.0) (Decides-ltb s.0 (2 ^ count)))

pub line_tested : (c : Counts) (l : Line) → Decides (line_fits c l) (LineFits c l)
line_tested c l =
    Decides-like (line_fits c l)
    (λ f. record { vehicles = f.0; times = f.1; locations = f.2; users = f.3 })
    (λ f. (f.vehicles, f.times, f.locations, f.users))
    (four_tested _ _ _ _ (set_tested c.vehicles l.vehicles) (set_tested c.times l.times) (set_tested c.locations l.locations) (set_tested c.users l.users))

pub amounts_tested : (u : Usage) → Decides (amounts_in_range u) (AmountsInRange u)
amounts_tested u =
    Decides-like (amounts_in_range u)
    (λ f. record { metres = f.0.0; minutes = f.0.1; events = f.1 })
    (λ f. ((f.metres, f.minutes), f.events))
    (Decides-and _ _ (Decides-and _ _ (at_most_tested u.metres 10000000) (at_most_tested u.minutes 10000000)) (at_most_tested u.events 10000000))

-- what stands at a line number
pub free_tested : (s : LineState) → Decides (is_free s) (s ≡ Free)
free_tested Free = (λ _. refl, λ _. refl)
free_tested (Live l) = (λ h. absurd (false≢true h), λ e. ap is_free e)
free_tested (Withdrawn l) = (λ h. absurd (false≢true h), λ e. ap is_free e)

pub live_tested : (s : LineState) → Decides (is_live s) ((l : Line) × (s ≡ Live l))
live_tested Free = (λ h. absurd (false≢true h), λ f. ap is_live f.1)
live_tested (Live l) = (λ _. (l, refl), λ _. refl)
live_tested (Withdrawn l) = (λ h. absurd (false≢true h), λ f. ap is_live f.1)

pub withdrawn_tested : (s : LineState) → Decides (is_withdrawn s) ((l : Line) × (s ≡ Withdrawn l))
withdrawn_tested Free = (λ h. absurd (false≢true h), λ f. ap is_withdrawn f.1)
withdrawn_tested (Live l) = (λ h. absurd (false≢true h), λ f. ap is_withdrawn f.1)
withdrawn_tested (Withdrawn l) = (λ _. (l, refl), λ _. refl)

pub some_tested : {A : Type 0} (o : Option A) → Decides (is_some o) ((x : A) × (o ≡ Some x))
some_tested (Some x) = (λ _. (x, refl), λ _. refl)
some_tested None = (λ h. absurd (false≢true h), λ f. ap is_some f.1)

-- a tariff's numbers
coded_from : {A : Type 0} (a b c : A) (n : ℕ) → 1 ≤ n → n ≤ 3 → is_some (choice_of a b c n) ≡ true
coded_from a b c n low high = grind (arith, nat_tests)

with_codes : (p : Terms) (m : Option Measure) (k v : Option Rounding) → is_some m ≡ true → is_some k ≡ true → is_some v ≡ true → is_some (tariff_with p m k v) ≡ true
with_codes p None k v hm hk hv = absurd (false≢true hm)
with_codes p (Some m) None v hm hk hv = absurd (false≢true hk)
with_codes p (Some m) (Some k) None hm hk hv = absurd (false≢true hv)
with_codes p (Some m) (Some k) (Some v) hm hk hv = refl

pub terms_tested : (p : Terms) → Decides (is_some (checked p)) (InRange p)
terms_tested p = (
  λ h. let made = (some_tested (checked p)).0 h in (checked_exact p made.0 made.1).0,
  λ r. rw (sums_from p r.sums) (with_codes p (measure_coded p.measure) (rounding_coded p.rounding) (rounding_coded p.vat_rounding) (coded_from _ _ _ p.measure r.measure_low r.measure_high) (coded_from _ _ _ p.rounding r.rounding_low r.rounding_high) (coded_from _ _ _ p.vat_rounding r.vat_rounding_low r.vat_rounding_high)),
)
