use Rattle.std.proofs.Common.{◌≡◌, true, Some, sym, ap, ◌∙◌, arith, get_or}
use Rattle.std.proofs.lemmas.Result.{err_from_is_err_and}
use Rattle.tariff.specs.Ranges.{checked}
use Rattle.contents.specs.Calls.{put_refusal, stored}
use Rattle.sheet.specs.declared.reading.Stage.TheVariants.{Tariffs}
use Rattle.sheet.specs.Reading.{above}
use Rattle.sheet.specs.Records.{body_tariff, body_terms}
use Rattle.sheet.proofs.Drafts.{numbered-refused, numbered-accepted}
use Rattle.sheet.proofs.reading.Draft.take_tariff.Goals as goal

pub returns-in_err-put : goal.returns-in_err-put
returns-in_err-put c =
    let d = c.args.self.now in
    let body = c.args.body.now in
    let n = get_or body 0 0 in
    let number : n ≡ body_tariff body = omega arith in
    let higher : above d.last_tariff n ≡ true = ap (above d.last_tariff) (sym c.from.ensures) ∙ sym c.is_above.ensures ∙ c.if-not-is_above.false in
    let p = err_from_is_err_and c.from_residual.result c.from_residual.ensures.1 in
    let q = c.in_err-put.ensures in
    let w = numbered-refused d d.last_tariff (put_refusal d.contents) (λ m x. stored m (checked x) d.contents) (λ b m. record { contents = b; stage = Tariffs; last_tariff = Some m; last_line = d.last_line }) (body_tariff body) n c.terms_of.result (body_terms body) number c.terms_of.ensures higher _ c.put.new.self c.from_residual.result p.0 q.answer q.after p.1 p.2 in
    record { answer = w.answer; after = w.after }

pub returns : goal.returns
returns c =
    let d = c.args.self.now in
    let body = c.args.body.now in
    let n = get_or body 0 0 in
    let number : n ≡ body_tariff body = omega arith in
    let higher : above d.last_tariff n ≡ true = ap (above d.last_tariff) (sym c.from.ensures) ∙ sym c.is_above.ensures ∙ c.if-not-is_above.false in
    let q = c.in_ok-put.ensures in
    let w = numbered-accepted d d.last_tariff (put_refusal d.contents) (λ m x. stored m (checked x) d.contents) (λ b m. record { contents = b; stage = Tariffs; last_tariff = Some m; last_line = d.last_line }) (body_tariff body) n c.terms_of.result (body_terms body) number c.terms_of.ensures higher c.put.new.self q.answer q.after in
    record {
      answer = w.answer;
      after = (λ i. record { contents = c.put.new.self; stage = Tariffs; last_tariff = Some (c.from-2.ensures i); last_line = d.last_line }) ∙ w.after;
    }
