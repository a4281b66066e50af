use Rattle.std.proofs.Common.{length, rules, tests, arith}
use Rattle.std.specs.Prelude.{◌==◌}
use Rattle.std.proofs.lemmas.List.{length_push}
use Rattle.std.proofs.lemmas.List.FromFn.{length-enumerate_from}
use Rattle.std.proofs.lemmas.Iterator.Consumers.{YieldsList-at, YieldsList-from_enumerate, YieldsList-turn, YieldsList-end}
use Rattle.std.proofs.lemmas.Result.{err_from_is_err_and}
use Rattle.script.specs.Pieces.{pieces}
use Rattle.script.proofs.Cutting.{cut_at}
use Rattle.script.proofs.Progress.{NthLine, one_more, all_read, error_told}
use Rattle.script.proofs.Refusals.{read_meaning, error_meaning}
use Rattle.script.proofs.scripts.parse_script.Goals as goal
use Rattle.script.proofs.scripts.parse_script.Goals.{In-Some}

-- this turn's line
turn : (c : In-Some) → NthLine c.args.text.now (length c.loop-before.yielded) c.in-Some.before c.in-Some.line.now
turn c =
    let lines = cut_at (λ b. b == 10) c.args.text.now c.split.ensures.runs c.split.ensures.rest c.split.ensures.done c.split.ensures.closure (λ x b q k. search (rules, tests)) in
    let road = YieldsList-from_enumerate (YieldsList-at c.enumerate-before-items.ensures.source lines) c.enumerate-before-items.ensures.count in
    YieldsList-turn (YieldsList-at c.into_iter-before-iterator.ensures.into_iter_gives road) c.loop-before.yielded _ c.loop-before.yielded_by _ _ (c.in-Some.before, c.in-Some.line) c.in-Some.is c.next.ensures.steps

pub loop-before-preserved : goal.loop-before-preserved
loop-before-preserved c = rw length_push (one_more c.args.text.now _ _ _ (turn (goal.at.loop-before-preserved c).In-Some) _ _ c.loop-before.invariant c.in_ok-add_line.ensures)

pub returns-in_err-add_line : goal.returns-in_err-add_line
returns-in_err-add_line c =
    let p = err_from_is_err_and c.from_residual.result c.from_residual.ensures.1 in
    let told = error_told c.args.text.now _ _ _ (turn (goal.at.returns-in_err-add_line c).In-Some) _ c.in_err-add_line.field-0.0 c.loop-before.invariant c.in_err-add_line.ensures in
    record { value = rw (p.1, p.2) told; meaning = rw (p.1, p.2) (error_meaning c.args.text.now c.in_err-add_line.field-0.0 told) }

pub returns : goal.returns
returns c =
    let lines = cut_at (λ b. b == 10) c.args.text.now c.split.ensures.runs c.split.ensures.rest c.split.ensures.done c.split.ensures.closure (λ x b q k. search (rules, tests)) in
    let road = YieldsList-from_enumerate (YieldsList-at c.enumerate-before-items.ensures.source lines) c.enumerate-before-items.ensures.count in
    let end = YieldsList-end (YieldsList-at c.into_iter-before-iterator.ensures.into_iter_gives road) c.loop-before.yielded _ c.loop-before.yielded_by _ _ c.in-None.is c.next.ensures.steps in
    let value = all_read _ _ _ c.loop-before.invariant (omega (arith, end.1, length-enumerate_from 0 (pieces 10 c.args.text.now))) in
    record { value = value; meaning = read_meaning c.args.text.now _ value }
