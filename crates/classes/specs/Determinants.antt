-- What a determinant means: how many classes there are, and the class of each usage.
use Rattle.std.specs.Prelude.{ℕ, ◌≤◌, cond, Some, None, Option, ◌==◌}
use Rattle.std.specs.Option.{unwrap_or}
use Rattle.std.proofs.Common.{lit≤}
use Rattle.classes.specs.declared.determinant.Determinants.{Determinants}
use Rattle.classes.specs.declared.usage.Usage.{Usage}

pub record Meaning : Type 0 where
  pub count : ℕ
  -- from 1 up; 0 is no class
  pub class : Usage → ℕ
  -- no class passes the count
  pub within : (u : Usage) → class u ≤ count

-- the class that is given, if there is one
abbrev pub class_given : ℕ → Option ℕ
class_given class = cond (class == 0) None (Some class)

-- and back
abbrev pub class_number : Option ℕ → ℕ
class_number given = unwrap_or given 0

-- what four determinants mean
pub record Meanings : Type 0 where
  pub vehicle : Meaning
  pub time : Meaning
  pub location : Meaning
  pub user : Meaning

abbrev pub meanings : Meaning → Meaning → Meaning → Meaning → Meanings
meanings v t l u = record { vehicle = v; time = t; location = l; user = u }

-- what the four determinants of a usage mean, where v, t, l and u say it of each kind
abbrev pub meanings_of : {V T L U : Type 0} → (V → Meaning) → (T → Meaning) → (L → Meaning) → (U → Meaning) → Determinants V T L U → Meanings
meanings_of v t l u d = meanings (v d.vehicle.now) (t d.time.now) (l d.location.now) (u d.user.now)

-- one class for everything
abbrev pub whole_meaning : Meaning
whole_meaning = record { count = 1; class = λ _. 1; within = λ _. lit≤ tt }
