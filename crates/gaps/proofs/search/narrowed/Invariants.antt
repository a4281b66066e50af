use Rattle.std.proofs.Common.{◌≡◌, ◌++◌, map, take, drop}
use Rattle.gaps.specs.Gaps.{kept}
use Rattle.gaps.proofs.search.narrowed.Given as goal

-- the states passed so far are kept or freed, the rest are as they were
abbrev pub invariant-loop-state : goal.invariant-loop-state
invariant-loop-state l = l.states ≡ map (kept l.role l.class) (take l.state-index l.table.states) ++ drop l.state-index l.table.states
