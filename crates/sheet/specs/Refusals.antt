-- The number of each refusal of a sheet, and the values that it carries.
use Rattle.std.specs.Prelude.{ℕ, [], ◌∷◌, Some, None, Option, Result}
use Rattle.classes.specs.Outcomes.{Outcome, outcome_by}
use Rattle.contents.specs.Calls.{Refused as Numbered}
use Rattle.contents.specs.Refusals.{numbered as book_numbered}
use Rattle.sheet.specs.declared.refusal.RecordFault.{RecordFault}
use Rattle.sheet.specs.declared.refusal.RecordFault.TheVariants.{CutShort, UnknownKind, NotDue, Refused}
use Rattle.sheet.specs.declared.refusal.SheetRefusal.{SheetRefusal}
use Rattle.sheet.specs.declared.refusal.SheetRefusal.TheVariants.{Book, Record, SpaceTooShort}

-- what is wrong with a record; where the book refuses, by the number of its refusal
abbrev pub fault_numbered : RecordFault → Numbered
fault_numbered CutShort = (17, [])
fault_numbered UnknownKind = (18, [])
fault_numbered NotDue = (19, [])
fault_numbered (Refused r) = (20, (book_numbered r).0 ∷ [])

-- the place comes before the other values
abbrev pub placed : ℕ → Numbered → Numbered
placed place r = (r.0, place ∷ r.1)

abbrev pub numbered : SheetRefusal → Numbered
numbered (Book r) = book_numbered r
numbered (Record place fault) = placed place (fault_numbered fault)
numbered SpaceTooShort = (21, [])

abbrev pub fault_outcome : {A : Type 0} → Result A RecordFault → Outcome A
fault_outcome r = outcome_by fault_numbered r

abbrev pub outcome : {A : Type 0} → Result A SheetRefusal → Outcome A
outcome r = outcome_by numbered r

-- what a call leaves of a draft or of a space: refused, it is as it was
abbrev pub left_by : {A : Type 0} → Option Numbered → A → A → A
left_by (Some r) before changed = before
left_by None before changed = changed
