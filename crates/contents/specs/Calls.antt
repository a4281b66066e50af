-- The calls. Each has a definition of its refusal, if there is one: tests in a fixed order, the first that fails giving
-- the number and the values. Where there is none the call is accepted, and the contents change; else they stay.
use Rattle.std.specs.Prelude.{ℕ, ◌+◌, Bool, true, false, cond, List, [], ◌∷◌, is_some, Some, None, Option, nat_lt}
use Rattle.classes.specs.declared.refusal.Classes.{Classes}
use Rattle.classes.specs.Outcomes.{Outcome, accepted, refusal}
use Rattle.tariff.specs.declared.terms.Tariff.{Tariff}
use Rattle.tariff.specs.declared.terms.Terms.{Terms}
use Rattle.tariff.specs.Ranges.{checked}
use Rattle.lines.specs.declared.sets.Counts.{Counts}
use Rattle.lines.specs.declared.states.Line.{Line}
use Rattle.lines.specs.declared.states.LineState.{LineState}
use Rattle.lines.specs.declared.states.LineState.TheVariants.{Free, Live, Withdrawn}
use Rattle.lines.specs.Sets.{counts_in_range}
use Rattle.lines.specs.Lines.{line_fits}
use Rattle.lines.specs.Tables.{first_overlap}
use Rattle.gaps.specs.Gaps.{first_gap}
use Rattle.contents.specs.declared.contents.Contents.{Contents}
use Rattle.contents.specs.declared.contents.Phase.TheVariants.{Blank, Draft, Issued}
use Rattle.contents.specs.Refusals.{gap_values}
use Rattle.contents.specs.Contents.{in_phase, tariff_number, line_number, tariff_at, line_at, with_phase, with_version, with_counts, with_tariff, with_line}

-- a refusal's number and values
abbrev pub Refused : Type 0
Refused = ℕ × List ℕ

-- the refusal, unless the test passes and the rest has none
abbrev pub unless : Bool → Refused → Option Refused → Option Refused
unless passes r rest = cond passes rest (Some r)

-- a call answers its refusal, or the value
abbrev pub answered : {A : Type 0} → Option Refused → A → Outcome A
answered (Some r) x = refusal r
answered None x = accepted x

-- a refused call leaves the contents as they were
abbrev pub settled : Option Refused → Contents → Contents → Contents
settled (Some r) before changed = before
settled None before changed = changed

abbrev pub is_free : LineState → Bool
is_free Free = true
is_free (Live l) = false
is_free (Withdrawn l) = false

abbrev pub is_live : LineState → Bool
is_live Free = false
is_live (Live l) = true
is_live (Withdrawn l) = false

abbrev pub is_withdrawn : LineState → Bool
is_withdrawn Free = false
is_withdrawn (Live l) = false
is_withdrawn (Withdrawn l) = true

-- the lowest live line in the way of a line
abbrev pub overlap_with : Option ℕ → Option Refused
overlap_with None = None
overlap_with (Some n) = Some (11, n ∷ [])

abbrev pub overlap_refusal : Contents → Line → Option Refused
overlap_refusal b l = overlap_with (first_overlap b.lines.states l)

-- the classes of an unclaimed combination
abbrev pub gap_with : Option Classes → Option Refused
gap_with None = None
gap_with (Some k) = Some (12, gap_values k)

-- open: four counts make a draft
abbrev pub open_refusal : Contents → Counts → Option Refused
open_refusal b c = unless (in_phase Blank b) (1, []) (unless (counts_in_range c) (2, []) None)

abbrev pub opened : Counts → Contents → Contents
opened c b = with_phase Draft (with_counts c b)

-- put: sets or replaces a tariff
abbrev pub put_refusal : Contents → ℕ → Terms → Option Refused
put_refusal b n terms =
    unless (in_phase Draft b) (1, [])
    (unless (tariff_number n) (3, [])
    (unless (is_some (checked terms)) (4, []) None))

abbrev pub stored : ℕ → Option Tariff → Contents → Contents
stored n None b = b
stored n (Some t) b = with_tariff n t b

-- add: makes a free number live
abbrev pub add_refusal : Contents → ℕ → Line → Option Refused
add_refusal b n l =
    unless (in_phase Draft b) (1, [])
    (unless (line_number n) (5, [])
    (unless (is_free (line_at b n)) (6, [])
    (unless (tariff_number l.tariff) (3, [])
    (unless (is_some (tariff_at b l.tariff)) (9, [])
    (unless (line_fits b.counts l) (10, [])
    (overlap_refusal b l))))))

abbrev pub added : ℕ → Line → Contents → Contents
added n l b = with_line n (Live l) b

-- withdraw: turns live into withdrawn
abbrev pub withdraw_refusal : Contents → ℕ → Option Refused
withdraw_refusal b n =
    unless (in_phase Draft b) (1, [])
    (unless (line_number n) (5, [])
    (unless (is_live (line_at b n)) (7, []) None))

abbrev pub set_aside : LineState → LineState
set_aside Free = Free
set_aside (Live l) = Withdrawn l
set_aside (Withdrawn l) = Withdrawn l

abbrev pub withdrawn : ℕ → Contents → Contents
withdrawn n b = with_line n (set_aside (line_at b n)) b

-- restore: turns withdrawn into live, unless a live line is in the way
abbrev pub in_the_way : Contents → LineState → Option Refused
in_the_way b Free = None
in_the_way b (Live l) = overlap_refusal b l
in_the_way b (Withdrawn l) = overlap_refusal b l

abbrev pub restore_refusal : Contents → ℕ → Option Refused
restore_refusal b n =
    unless (in_phase Draft b) (1, [])
    (unless (line_number n) (5, [])
    (unless (is_withdrawn (line_at b n)) (8, [])
    (in_the_way b (line_at b n))))

abbrev pub made_live : LineState → LineState
made_live Free = Free
made_live (Live l) = Live l
made_live (Withdrawn l) = Live l

abbrev pub restored : ℕ → Contents → Contents
restored n b = with_line n (made_live (line_at b n)) b

-- strike: turns withdrawn into free
abbrev pub strike_refusal : Contents → ℕ → Option Refused
strike_refusal b n =
    unless (in_phase Draft b) (1, [])
    (unless (line_number n) (5, [])
    (unless (is_withdrawn (line_at b n)) (8, []) None))

abbrev pub given_up : LineState → LineState
given_up Free = Free
given_up (Live l) = Live l
given_up (Withdrawn l) = Free

abbrev pub struck : ℕ → Contents → Contents
struck n b = with_line n (given_up (line_at b n)) b

-- issue: raises the version by one, unless a combination is unclaimed
abbrev pub issue_refusal : Contents → Option Refused
issue_refusal b =
    unless (in_phase Draft b) (1, [])
    (unless (nat_lt b.version 255) (13, [])
    (gap_with (first_gap b.counts b.lines.states)))

abbrev pub issued : Contents → Contents
issued b = with_phase Issued (with_version (b.version + 1) b)

-- reopen: makes a draft of an issued book
abbrev pub reopen_refusal : Contents → Option Refused
reopen_refusal b = unless (in_phase Issued b) (1, []) None

abbrev pub reopened : Contents → Contents
reopened b = with_phase Draft b
