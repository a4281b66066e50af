use Rattle.std.proofs.Common.{◌≡◌, ◌+◌, None}
use Rattle.gaps.specs.Gaps.{first_gap}
use Rattle.gaps.proofs.Remaining.{from_vehicle, from_time, from_location, from_user}
use Rattle.gaps.proofs.search.first_gap.Given as goal

-- nothing is found so far, so what remains to be searched decides
abbrev pub invariant-search : goal.invariant-search
invariant-search l = (l.gap ≡ None) × (first_gap l.counts l.table.states ≡ from_vehicle l.counts l.table.states (l.vehicles_passed + 1))

abbrev pub invariant-loop-times_passed : goal.invariant-loop-times_passed
invariant-loop-times_passed l = (l.gap ≡ None) × (first_gap l.counts l.table.states ≡ from_time l.counts l.table.states l.vehicle (l.times_passed + 1))

abbrev pub invariant-loop-locations_passed : goal.invariant-loop-locations_passed
invariant-loop-locations_passed l = (l.gap ≡ None) × (first_gap l.counts l.table.states ≡ from_location l.counts l.table.states l.vehicle l.time (l.locations_passed + 1))

abbrev pub invariant-loop-users_passed : goal.invariant-loop-users_passed
invariant-loop-users_passed l = (l.gap ≡ None) × (first_gap l.counts l.table.states ≡ from_user l.counts l.table.states l.vehicle l.time l.location (l.users_passed + 1))
