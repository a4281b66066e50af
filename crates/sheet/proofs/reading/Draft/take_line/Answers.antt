use Rattle.std.proofs.Common.{◌≡◌, true, Some, sym, ap, ◌∙◌, arith}
use Rattle.std.proofs.lemmas.Result.{err_from_is_err_and}
use Rattle.std.specs.Int.{w16, from_be_bytes}
use Rattle.contents.specs.Calls.{add_refusal, added}
use Rattle.sheet.specs.declared.reading.Stage.TheVariants.{Lines}
use Rattle.sheet.specs.Reading.{above}
use Rattle.sheet.specs.Records.{body_number, body_line}
use Rattle.sheet.proofs.Drafts.{numbered-refused, numbered-accepted}
use Rattle.sheet.proofs.reading.Draft.take_line.Goals as goal

pub returns-in_err-add : goal.returns-in_err-add
returns-in_err-add c =
    let d = c.args.self.now in
    let body = c.args.body.now in
    let n = c.from_be_bytes-number.result in
    let number : n ≡ body_number body = omega (arith, c.from_be_bytes-number.ensures ∙ ap (from_be_bytes w16) c.bytes_at.ensures) in
    let higher : above d.last_line n ≡ true = sym c.is_above.ensures ∙ c.if-not-is_above.false in
    let p = err_from_is_err_and c.from_residual.result c.from_residual.ensures.1 in
    let q = c.in_err-add.ensures in
    let w = numbered-refused d d.last_line (add_refusal d.contents) (λ m x. added m x d.contents) (λ b m. record { contents = b; stage = Lines; last_tariff = d.last_tariff; last_line = Some m }) (body_number body) n c.line_of.result (body_line body) number c.line_of.ensures higher _ c.add.new.self c.from_residual.result p.0 q.answer q.after p.1 p.2 in
    record { answer = w.answer; after = w.after }

pub returns : goal.returns
returns c =
    let d = c.args.self.now in
    let body = c.args.body.now in
    let n = c.from_be_bytes-number.result in
    let number : n ≡ body_number body = omega (arith, c.from_be_bytes-number.ensures ∙ ap (from_be_bytes w16) c.bytes_at.ensures) in
    let higher : above d.last_line n ≡ true = sym c.is_above.ensures ∙ c.if-not-is_above.false in
    let q = c.in_ok-add.ensures in
    let w = numbered-accepted d d.last_line (add_refusal d.contents) (λ m x. added m x d.contents) (λ b m. record { contents = b; stage = Lines; last_tariff = d.last_tariff; last_line = Some m }) (body_number body) n c.line_of.result (body_line body) number c.line_of.ensures higher c.add.new.self q.answer q.after in
    record { answer = w.answer; after = w.after }
