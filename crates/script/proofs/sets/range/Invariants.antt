use Rattle.std.proofs.Common.{◌≡◌, ◌-◌}
use Rattle.script.specs.Sets.{run}
use Rattle.script.proofs.sets.range.Given as goal

-- the classes passed so far are in the set
abbrev pub invariant-loop-class : goal.invariant-loop-class
invariant-loop-class l = l.set ≡ run l.fn.low.number (l.class - l.fn.low.number)
