-- The number of each refusal, and the values that it carries.
use Rattle.std.specs.Prelude.{ℕ, List, [], ◌∷◌, Result}
use Rattle.classes.specs.declared.refusal.Classes.{Classes}
use Rattle.classes.specs.Outcomes.{Outcome, outcome_by, role_number}
use Rattle.contents.specs.declared.refusal.Refusal.{Refusal}
use Rattle.contents.specs.declared.refusal.Refusal.TheVariants.{WrongPhase, CountOutOfRange, NoSuchTariff, TermsOutOfRange, NoSuchLine, NumberTaken, NotLive, NotWithdrawn, TariffNeverPut, SetOutOfRange, Overlap, Gap, LastVersion, CountUnlike, AmountOutOfRange, NoClass}

-- a combination by its classes, vehicle first
abbrev pub gap_values : Classes → List ℕ
gap_values k = k.vehicle ∷ k.time ∷ k.location ∷ k.user ∷ []

abbrev pub numbered : Refusal → ℕ × List ℕ
numbered WrongPhase = (1, [])
numbered CountOutOfRange = (2, [])
numbered NoSuchTariff = (3, [])
numbered TermsOutOfRange = (4, [])
numbered NoSuchLine = (5, [])
numbered NumberTaken = (6, [])
numbered NotLive = (7, [])
numbered NotWithdrawn = (8, [])
numbered TariffNeverPut = (9, [])
numbered SetOutOfRange = (10, [])
numbered (Overlap line) = (11, line ∷ [])
numbered (Gap k) = (12, gap_values k)
numbered LastVersion = (13, [])
numbered (CountUnlike role) = (14, role_number role ∷ [])
numbered AmountOutOfRange = (15, [])
numbered (NoClass role) = (16, role_number role ∷ [])

abbrev pub outcome : {A : Type 0} → Result A Refusal → Outcome A
outcome r = outcome_by numbered r
