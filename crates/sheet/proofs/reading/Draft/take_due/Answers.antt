use Rattle.std.proofs.lemmas.Result.{err_from_is_err_and}
use Rattle.sheet.specs.declared.records.Kind.TheVariants.{Line}
use Rattle.sheet.specs.Refusals.{fault_numbered}
use Rattle.sheet.proofs.Drafts.{body-refused, body-accepted, body-left}
use Rattle.sheet.proofs.reading.Draft.take_due.Goals as goal

pub returns-in_err-take_line-in-Line-clause-answer : goal.returns-in_err-take_line-in-Line-clause-answer
returns-in_err-take_line-in-Line-clause-answer c =
    let cut = c.in_ok-body-in-Line.ensures in
    let p = err_from_is_err_and c.from_residual-in_err-take_line-in-Line.result c.from_residual-in_err-take_line-in-Line.ensures.1 in
    rw (p.1, p.2, c.in-Line.is) (body-refused c.args.self.now c.take_line.new.self Line c.args.rest.now c.in_ok-body-in-Line.body.now cut.0 cut.1 (fault_numbered c.in_err-take_line-in-Line.field-0.0) c.in_err-take_line-in-Line.ensures.answer)

pub returns-in_err-take_line-in-Line-clause-after : goal.returns-in_err-take_line-in-Line-clause-after
returns-in_err-take_line-in-Line-clause-after c =
    let cut = c.in_ok-body-in-Line.ensures in
    rw c.in-Line.is (body-left c.args.self.now c.take_line.new.self Line c.args.rest.now c.in_ok-body-in-Line.body.now cut.0 cut.1 c.in_err-take_line-in-Line.ensures.after)

pub returns-in_ok-take_line-in-Line-clause-answer : goal.returns-in_ok-take_line-in-Line-clause-answer
returns-in_ok-take_line-in-Line-clause-answer c =
    let cut = c.in_ok-body-in-Line.ensures in
    (rw c.in-Line.is (body-accepted c.args.self.now c.take_line.new.self Line c.args.rest.now c.in_ok-body-in-Line.body.now cut.0 cut.1 c.in_ok-take_line-in-Line.ensures.answer), rw c.in-Line.is cut.2)

pub returns-in_ok-take_line-in-Line-clause-after : goal.returns-in_ok-take_line-in-Line-clause-after
returns-in_ok-take_line-in-Line-clause-after c =
    let cut = c.in_ok-body-in-Line.ensures in
    rw c.in-Line.is (body-left c.args.self.now c.take_line.new.self Line c.args.rest.now c.in_ok-body-in-Line.body.now cut.0 cut.1 c.in_ok-take_line-in-Line.ensures.after)
