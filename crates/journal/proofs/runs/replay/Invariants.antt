use Rattle.std.proofs.Common.{map, take, vec_items}
use Rattle.journal.specs.Asked.{asked, told}
use Rattle.journal.proofs.Running.{Running}
use Rattle.journal.proofs.runs.replay.Given as goal

-- the calls so far have the answers so far
abbrev pub invariant-loop-call : goal.invariant-loop-call
invariant-loop-call g l = Running (map (asked g.V.Determinant.meaning g.T.Determinant.meaning g.L.Determinant.meaning g.U.Determinant.meaning) (take l.call-index l.calls)) (map told (vec_items l.answers)) l.book.contents
