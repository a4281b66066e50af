use Rattle.std.proofs.Common.{◌≡◌, ◌+◌, Some, sym, ◌∙◌, arith}
use Rattle.gaps.specs.Gaps.{first_gap}
use Rattle.gaps.proofs.Meaning.{first_gap_found}
use Rattle.gaps.proofs.Remaining.{found_user, next_user, narrowed_claimed}
use Rattle.gaps.proofs.search.first_gap.Goals as goal

pub loop-users_passed-preserved : goal.loop-users_passed-preserved
loop-users_passed-preserved c =
    let here = narrowed_claimed _ _ _ _ c.args.table.now.states _ _ _ c.narrowed-of_vehicle.ensures c.narrowed-of_time.ensures c.users_at-users.ensures in
    (c.loop-users_passed.invariant.0, c.loop-users_passed.invariant.1 ∙ next_user c.args.counts.now c.args.table.now.states _ _ _ _ (omega arith) (sym here ∙ sym c.if-not-has.ensures))

found : (c : goal.Then-not-has) → first_gap c.args.counts.now c.args.table.now.states ≡ Some (record { vehicle = c.search.vehicles_passed + 1; time = c.loop-times_passed.times_passed + 1; location = c.loop-locations_passed.locations_passed + 1; user = c.loop-users_passed.users_passed + 1 })
found c =
    let here = narrowed_claimed _ _ _ _ c.args.table.now.states _ _ _ c.narrowed-of_vehicle.ensures c.narrowed-of_time.ensures c.users_at-users.ensures in
    c.loop-users_passed.invariant.1 ∙ found_user c.args.counts.now c.args.table.now.states _ _ _ _ (omega arith) (sym here ∙ sym c.if-not-has.ensures)

pub returns-then-not-has : goal.returns-then-not-has
returns-then-not-has c = record {
  value = sym (found c);
  meaning = first_gap_found c.args.counts.now c.args.table.now.states _ (found c);
}
