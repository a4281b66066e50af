use Rattle.std.proofs.Common.{◌≡◌, ◌<◌, length, get_or, Some, sym, ◌∙◌, rules, tests, arith}
use Rattle.std.specs.Prelude.{◌==◌}
use Rattle.std.proofs.lemmas.List.{at_drop_all, length_push}
use Rattle.std.proofs.lemmas.Iterator.Consumers.{YieldsList-at, YieldsList-turn, YieldsList-end}
use Rattle.script.specs.Pieces.{pieces}
use Rattle.script.specs.Sets.{union_from}
use Rattle.script.proofs.Cutting.{cut_at}
use Rattle.script.proofs.Naming.{set_named}
use Rattle.script.proofs.Runs.{union_more, union_stops, set_is}
use Rattle.script.proofs.sets.class_set.Goals as goal
use Rattle.script.proofs.sets.class_set.Goals.{In-Some}

-- this turn's item
turn : (c : In-Some) → (length c.loop-piece.yielded < length (pieces 44 c.args.word.now)) × (c.in-Some.piece.now ≡ get_or (pieces 44 c.args.word.now) (length c.loop-piece.yielded) c.in-Some.piece.now)
turn c =
    let road = cut_at (λ b. b == 44) c.args.word.now c.split-piece-items.ensures.runs c.split-piece-items.ensures.rest c.split-piece-items.ensures.done c.split-piece-items.ensures.closure (λ x b q k. search (rules, tests)) in
    YieldsList-turn (YieldsList-at c.into_iter-piece-iterator.ensures.into_iter_gives road) c.loop-piece.yielded _ c.loop-piece.yielded_by _ _ c.in-Some.piece c.in-Some.is c.next.ensures.steps

pub loop-piece-preserved : goal.loop-piece-preserved
loop-piece-preserved c =
    let t = turn (goal.at.loop-piece-preserved c).In-Some in
    rw (length_push, c.union-set.ensures) (union_more (pieces 44 c.args.word.now) _ _ c.loop-piece.set t _ c.in_ok-item.ensures ∙ c.loop-piece.invariant)

pub returns-in_err-item-clause-value : goal.returns-in_err-item-clause-value
returns-in_err-item-clause-value c =
    let t = turn (goal.at.returns-in_err-item-clause-value c).In-Some in
    c.from_residual.ensures ∙ union_stops (pieces 44 c.args.word.now) _ _ c.loop-piece.set t c.in_err-item.ensures ∙ c.loop-piece.invariant ∙ set_is c.args.word.now c.if-eq.ensures

pub returns : goal.returns
returns c =
    let road = cut_at (λ b. b == 44) c.args.word.now c.split-piece-items.ensures.runs c.split-piece-items.ensures.rest c.split-piece-items.ensures.done c.split-piece-items.ensures.closure (λ x b q k. search (rules, tests)) in
    let end = YieldsList-end (YieldsList-at c.into_iter-piece-iterator.ensures.into_iter_gives road) c.loop-piece.yielded _ c.loop-piece.yielded_by _ _ c.in-None.is c.next.ensures.steps in
    let value = sym (at_drop_all (union_from (Some c.loop-piece.set)) (pieces 44 c.args.word.now) (length c.loop-piece.yielded) (omega (arith, end.1))) ∙ c.loop-piece.invariant ∙ set_is c.args.word.now c.if-eq.ensures in
    record { value = value; meaning = set_named c.args.word.now _ value }
