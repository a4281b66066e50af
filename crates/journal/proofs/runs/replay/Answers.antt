use Rattle.std.proofs.Common.{vec_items, sym, ◌∙◌}
use Rattle.std.proofs.lemmas.List.{length-map}
use Rattle.journal.specs.Asked.{asked, told}
use Rattle.journal.proofs.Running.{running_next, running_all, running_lawful}
use Rattle.journal.proofs.runs.replay.Goals as goal

pub loop-call-preserved : goal.loop-call-preserved
loop-call-preserved g c =
    let items = c.in_ok-push.ensures.items in
    let step = c.in_ok-answer.ensures in
    rw items (running_next (asked g.V.Determinant.meaning g.T.Determinant.meaning g.L.Determinant.meaning g.U.Determinant.meaning) told c.args.calls.now c.loop-call.call-index c.call-item.result (vec_items c.loop-call.answers) c.in_ok-answer.field-0 c.loop-call.book.contents c.answer.new.book.contents c.loop-call-test.true c.call-item.is c.loop-call.invariant step)

pub returns : goal.returns
returns g c =
    let whole = running_all (asked g.V.Determinant.meaning g.T.Determinant.meaning g.L.Determinant.meaning g.U.Determinant.meaning) c.args.calls.now c.loop-call.call-index _ _ c.loop-call-test.false c.loop-call.invariant in
    record { many = c.loop-call.answers.ok.0 ∙ sym (length-map (vec_items c.loop-call.answers) told) ∙ whole.many ∙ length-map c.args.calls.now _; lawful = running_lawful whole; bytes = whole.bytes; answers = whole.history }
