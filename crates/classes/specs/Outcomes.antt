-- What a call answers: a value, or a refusal by its number and the values that it carries.
use Rattle.std.specs.Prelude.{ℕ, cond, List, [], ◌∷◌, Ok, Err, Result, ◌==◌}
use Rattle.classes.specs.declared.refusal.Classes.{Classes}
use Rattle.classes.specs.declared.refusal.Refusal.{Refusal}
use Rattle.classes.specs.declared.refusal.Refusal.TheVariants.{NoClass}
use Rattle.classes.specs.declared.refusal.Role.{Role}
use Rattle.classes.specs.declared.refusal.Role.TheVariants.{Vehicle, Time, Location, User}
use Rattle.classes.specs.declared.usage.Usage.{Usage}
use Rattle.classes.specs.Determinants.{Meanings}

pub data Outcome (A : Type 0) : Type 0 where
  accepted : A → Outcome A
  refusal : ℕ × List ℕ → Outcome A

-- determinants are numbered from 1
abbrev pub role_number : Role → ℕ
role_number Vehicle = 1
role_number Time = 2
role_number Location = 3
role_number User = 4

-- the number of each refusal, and its values
abbrev pub numbered : Refusal → ℕ × List ℕ
numbered (NoClass role) = (16, role_number role ∷ [])

-- what a result says, by the numbers of its refusals
abbrev pub outcome_by : {A E : Type 0} → (E → ℕ × List ℕ) → Result A E → Outcome A
outcome_by numbers (Ok x) = accepted x
outcome_by numbers (Err e) = refusal (numbers e)

abbrev pub outcome : {A : Type 0} → Result A Refusal → Outcome A
outcome r = outcome_by numbered r

-- one class, from the determinant with this number: 0 is no class
abbrev pub class_outcome : ℕ → ℕ → Outcome ℕ
class_outcome number class = cond (class == 0) (refusal (16, number ∷ [])) (accepted class)

-- four classes: the first that is 0 refuses
abbrev pub classes_outcome : ℕ → ℕ → ℕ → ℕ → Outcome Classes
classes_outcome v t l u =
    cond (v == 0) (refusal (16, 1 ∷ []))
    (cond (t == 0) (refusal (16, 2 ∷ []))
    (cond (l == 0) (refusal (16, 3 ∷ []))
    (cond (u == 0) (refusal (16, 4 ∷ []))
    (accepted (record { vehicle = v; time = t; location = l; user = u })))))

-- what four determinants answer of a usage
abbrev pub classified : Meanings → Usage → Outcome Classes
classified d u = classes_outcome (d.vehicle.class u) (d.time.class u) (d.location.class u) (d.user.class u)
