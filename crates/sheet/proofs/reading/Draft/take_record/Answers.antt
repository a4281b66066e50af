use Rattle.std.proofs.Common.{◌≡◌, Some, sym, ap, ◌∙◌, arith}
use Rattle.sheet.specs.Records.{kind_coded}
use Rattle.sheet.specs.Reading.{due_taken}
use Rattle.sheet.specs.Refusals.{left_by}
use Rattle.sheet.proofs.Drafts.{Coded, coded}
use Rattle.sheet.proofs.reading.Draft.take_record.Goals as goal

-- the kind is that of the code, and it is due
known : (c : goal.After-take_due) → Coded c.args.self.now c.args.code c.args.rest.now c.in_ok-kind.kind
known c =
    let same : kind_coded c.args.code ≡ Some c.in_ok-kind.kind = grind (arith, c.in_ok-kind.ensures) in
    coded c.args.self.now c.args.code c.args.rest.now c.in_ok-kind.kind (sym c.is_open.ensures ∙ c.if-not-is_open.false) same (sym c.takes.ensures ∙ c.if-not-takes.false)

pub returns-clause-answer : goal.returns-clause-answer
returns-clause-answer c =
    let t = known c in
    rw (t.why, t.size) c.take_due.ensures.answer

pub returns-clause-after : goal.returns-clause-after
returns-clause-after c =
    let t = known c in
    c.take_due.ensures.after ∙ ap (λ w. left_by w c.args.self.now (due_taken c.args.self.now c.in_ok-kind.kind c.args.rest.now)) (sym t.why) ∙ ap (left_by _ c.args.self.now) (sym t.taken)
