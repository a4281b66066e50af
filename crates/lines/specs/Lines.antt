-- Lines. A line claims a combination of classes when each class is in its set; two lines overlap when some combination
-- is claimed by both.
use Rattle.std.specs.Prelude.{◌≡◌, ◌≤◌, Bool, true, false, ◌&&◌}
use Rattle.classes.specs.declared.refusal.Classes.{Classes}
use Rattle.classes.specs.declared.refusal.Role.{Role}
use Rattle.classes.specs.declared.refusal.Role.TheVariants.{Vehicle, Time, Location, User}
use Rattle.lines.specs.declared.sets.ClassSet.{ClassSet}
use Rattle.lines.specs.declared.sets.Counts.{Counts}
use Rattle.lines.specs.declared.states.Line.{Line}
use Rattle.lines.specs.declared.states.LineState.{LineState}
use Rattle.lines.specs.declared.states.LineState.TheVariants.{Free, Live, Withdrawn}
use Rattle.lines.specs.Sets.{has_class, set_fits, sets_meet}

-- a combination: one class from 1 to the count for each determinant
pub record Combination (c : Counts) (k : Classes) : Type 0 where
  pub vehicle_low : 1 ≤ k.vehicle
  pub vehicle_high : k.vehicle ≤ c.vehicles
  pub time_low : 1 ≤ k.time
  pub time_high : k.time ≤ c.times
  pub location_low : 1 ≤ k.location
  pub location_high : k.location ≤ c.locations
  pub user_low : 1 ≤ k.user
  pub user_high : k.user ≤ c.users

-- a line's set for a determinant
abbrev pub set_of : Role → Line → ClassSet
set_of Vehicle l = l.vehicles
set_of Time l = l.times
set_of Location l = l.locations
set_of User l = l.users

abbrev pub claims : Line → Classes → Bool
claims l k = has_class l.vehicles k.vehicle && has_class l.times k.time && has_class l.locations k.location && has_class l.users k.user

-- no set is empty or has a class above its count
abbrev pub line_fits : Counts → Line → Bool
line_fits c l = set_fits c.vehicles l.vehicles && set_fits c.times l.times && set_fits c.locations l.locations && set_fits c.users l.users

-- the test for an overlap: the sets meet, one by one
abbrev pub lines_meet : Line → Line → Bool
lines_meet a b = sets_meet a.vehicles b.vehicles && sets_meet a.times b.times && sets_meet a.locations b.locations && sets_meet a.users b.users

-- a combination that is claimed by both lines
pub record Overlap (c : Counts) (a b : Line) : Type 0 where
  pub shared : Classes
  pub combination : Combination c shared
  pub by_first : claims a shared ≡ true
  pub by_second : claims b shared ≡ true

-- only live lines claim, and only live lines are overlapped
abbrev pub state_claims : Classes → LineState → Bool
state_claims k Free = false
state_claims k (Live l) = claims l k
state_claims k (Withdrawn l) = false

abbrev pub state_meets : Line → LineState → Bool
state_meets a Free = false
state_meets a (Live l) = lines_meet a l
state_meets a (Withdrawn l) = false
