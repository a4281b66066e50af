use Rattle.std.proofs.Common.{Some, rules, tests}
use Rattle.std.specs.Prelude.{◌==◌}
use Rattle.script.specs.Pieces.{pieces}
use Rattle.script.proofs.Cutting.{cut_at, piece_told}
use Rattle.script.proofs.Runs.{Cut, ends_told}
use Rattle.script.proofs.sets.ends.Goals as goal
use Rattle.script.proofs.sets.ends.Goals.{After-then_some}

-- what the three calls of `next` say of the pieces
cut : (c : After-then_some) → Cut (pieces 45 c.args.word.now) c.in_ok-first.first c.next-last.result c.next-2.result
cut c =
    let road = cut_at (λ b. b == 45) c.args.word.now c.split-ends.ensures.runs c.split-ends.ensures.rest c.split-ends.ensures.done c.split-ends.ensures.closure (λ x b q k. search (rules, tests)) in
    let one = piece_told _ _ (Some c.in_ok-first.first) road c.in_ok-first.ensures.steps in
    let two = piece_told _ _ c.next-last.result one.1 c.next-last.ensures.steps in
    let three = piece_told _ _ c.next-2.result two.1 c.next-2.ensures.steps in
    (one.0, two.0, three.0)

pub returns : goal.returns
returns c = ends_told (pieces 45 c.args.word.now) c.in_ok-first.first c.next-last.result c.next-2.result _ _ (cut c) c.is_none.ensures c.then_some.ensures
