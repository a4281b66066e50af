-- The worked figures: in each row, what a definition gives, and what it should give.
use Rattle.std.specs.Prelude.{List, [], ◌∷◌, ◌≡◌, ℕ, ◌+◌}
use Rattle.contents.specs.declared.contents.Contents.{Contents}
use Rattle.contents.specs.Calls.{answered, settled, open_refusal, opened, put_refusal, stored, add_refusal, added, withdraw_refusal, withdrawn, restore_refusal, restored, issue_refusal, issued, reopen_refusal, reopened}
use Rattle.contents.specs.Contents.{new_contents}
use Rattle.classes.specs.declared.usage.Instant.{Instant}
use Rattle.classes.specs.Outcomes.{Outcome, accepted, refusal}
use Rattle.classes.specs.Times.{weekday_of}
use Rattle.lines.specs.declared.sets.Counts.{Counts}
use Rattle.lines.specs.declared.states.Line.{Line}
use Rattle.tariff.specs.declared.codes.Measure.TheVariants.{Metres}
use Rattle.tariff.specs.declared.codes.Rounding.{Rounding}
use Rattle.tariff.specs.declared.codes.Rounding.TheVariants.{Up, Down, Nearest}
use Rattle.tariff.specs.declared.terms.Tariff.{Tariff}
use Rattle.tariff.specs.declared.terms.Terms.{Terms}
use Rattle.tariff.specs.Fees.{base_of, fee_of, vat_of}
use Rattle.tariff.specs.Ranges.{checked, numbers_of}

-- what is given and expected is a number that is answered, or a refusal
pub record Row : Type 0 where
  pub given : Outcome ℕ
  pub expected : Outcome ℕ

abbrev row : ℕ → ℕ → Row
row given expected = record { given = accepted given; expected = accepted expected }

abbrev call : Outcome ℕ → Outcome ℕ → Row
call given expected = record { given = given; expected = expected }

-- every row gives what is expected
abbrev pub Holds : List Row → Type 0
Holds [] = Unit {0}
Holds (r ∷ rows) = (r.given ≡ r.expected) × Holds rows

abbrev at_minute : ℕ → Instant
at_minute n = record { 0 = n }

-- a tariff by the metre with no offset and no minimum, at a VAT of 19 %
abbrev by_metre : ℕ → ℕ → Rounding → ℕ → ℕ → Tariff
by_metre unit rate rounding threshold cap_sum = record {
  measure = Metres;
  unit = unit;
  rate = rate;
  rounding = rounding;
  threshold = threshold;
  offset = 0;
  minimum = 0;
  «cap» = cap_sum;
  vat = 1900;
  vat_rounding = rounding;
}

-- a book with two vehicle and two location classes, and one class of the others
abbrev opening : Contents → Contents
opening b = let c : Counts = record { vehicles = 2; times = 1; locations = 2; users = 1 } in settled (open_refusal b c) b (opened c b)

abbrev putting : ℕ → Contents → Contents
putting n b = let t : Terms = numbers_of (by_metre 1000 10 Up 0 100) in settled (put_refusal b n t) b (stored n (checked t) b)

-- a line of tariff 1 for these vehicle and location classes: 1 is the set {1}, 2 is {2} and 3 is {1, 2}
abbrev line : ℕ → ℕ → Line
line vehicles locations = record { tariff = 1; vehicles = record { 0 = vehicles }; times = record { 0 = 1 }; locations = record { 0 = locations }; users = record { 0 = 1 } }

abbrev adding : ℕ → Line → Contents → Contents
adding n l b = settled (add_refusal b n l) b (added n l b)

abbrev withdrawing : ℕ → Contents → Contents
withdrawing n b = settled (withdraw_refusal b n) b (withdrawn n b)

abbrev restoring : ℕ → Contents → Contents
restoring n b = settled (restore_refusal b n) b (restored n b)

abbrev issuing : Contents → Contents
issuing b = settled (issue_refusal b) b (issued b)

abbrev reopening : Contents → Contents
reopening b = settled (reopen_refusal b) b (reopened b)

-- what issue answers, and how restore is refused
abbrev issue_answer : Contents → Outcome ℕ
issue_answer b = answered (issue_refusal b) (b.version + 1)

abbrev restore_answer : ℕ → Contents → Outcome ℕ
restore_answer n b = answered (restore_refusal b n) 0

-- vehicle class 1 everywhere, and class 2 at the first location
abbrev with_gap : Contents
with_gap = adding 2 (line 2 1) (adding 1 (line 1 3) (putting 1 (opening new_contents)))

-- with class 2 at the second location too
abbrev complete : Contents
complete = adding 3 (line 2 2) with_gap

-- issued and opened again; line 1 is withdrawn, and a part of its classes given to line 4
abbrev handed_over : Contents
handed_over = adding 4 (line 1 2) (withdrawing 1 (reopening (issuing complete)))

-- line 4 is withdrawn instead, and line 1 restored
abbrev undone : Contents
undone = restoring 1 (withdrawing 4 handed_over)

abbrev pub figures : List Row
figures =
    -- 1 January 1970 was a Thursday, the day that ends at minute 5,760 a Sunday
    row (weekday_of (at_minute 0)) 3
    ∷ row (weekday_of (at_minute 5759)) 6
    ∷ row (weekday_of (at_minute 5760)) 0
    -- a base of 20 against a threshold of 30, and of 20
    ∷ row (fee_of (by_metre 1 2 Up 30 100) 10) 0
    ∷ row (fee_of (by_metre 1 2 Up 20 100) 10) 20
    -- 14.5 in the three roundings
    ∷ row (base_of (by_metre 1000 10 Up 0 100) 1450) 15
    ∷ row (base_of (by_metre 1000 10 Down 0 100) 1450) 14
    ∷ row (base_of (by_metre 1000 10 Nearest 0 100) 1450) 15
    -- 19.95 in the three roundings
    ∷ row (vat_of (by_metre 1 1 Up 0 1000) 105) 20
    ∷ row (vat_of (by_metre 1 1 Down 0 1000) 105) 19
    ∷ row (vat_of (by_metre 1 1 Nearest 0 1000) 105) 20
    -- a book with a gap, and without
    ∷ call (issue_answer with_gap) (refusal (12, 2 ∷ 1 ∷ 2 ∷ 1 ∷ []))
    ∷ call (issue_answer complete) (accepted 1)
    -- a withdrawn line whose classes were given away cannot come back, until they are free again
    ∷ call (restore_answer 1 handed_over) (refusal (11, 4 ∷ []))
    ∷ call (issue_answer undone) (accepted 2)
    ∷ []
