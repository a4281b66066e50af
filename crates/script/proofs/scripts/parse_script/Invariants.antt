use Rattle.std.proofs.Common.{map, length, vec_items}
use Rattle.script.specs.Scripts.{plain_step}
use Rattle.script.proofs.Progress.{Sofar}
use Rattle.script.proofs.scripts.parse_script.Given as goal

abbrev pub invariant-loop-before : goal.invariant-loop-before
invariant-loop-before l = Sofar l.text (length l.yielded) (map plain_step (vec_items l.steps))
