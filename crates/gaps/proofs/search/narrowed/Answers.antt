use Rattle.gaps.specs.Gaps.{kept}
use Rattle.gaps.proofs.Narrowing.{changed_more}
use Rattle.gaps.proofs.search.narrowed.Goals as goal

pub loop-state-preserved : goal.loop-state-preserved
loop-state-preserved c =
    changed_more (kept c.args.role c.args.class) c.args.table.now.states c.loop-state.states c.loop-state.state-index c.loop-state.invariant _ _ c.loop-state.auto.states c.loop-state-test.true c.kept.ensures
