use Rattle.std.proofs.Common.{refl, arith}
use Rattle.std.proofs.lemmas.Result.{err_from_is_err_and}
use Rattle.law.specs.Histories.{done}
use Rattle.journal.proofs.Telling.{accepted_step, refused_step, small}
use Rattle.journal.proofs.runs.read_answer.Goals as goal

pub returns-in_err-read : goal.returns-in_err-read
returns-in_err-read c =
    let p = err_from_is_err_and c.from_residual.result c.from_residual.ensures.1 in
    rw (p.1, p.2) (refused_step (λ _. done) tt _ refl c.in_err-read.ensures.answer c.read.ensures.after (small c.args.bytes.now (λ i within. omega (arith, c.type_inv.bytes i))))

pub returns : goal.returns
returns c = accepted_step (λ _. done) tt tt refl c.in_ok-read.ensures.answer c.read.ensures.after (small c.args.bytes.now (λ i within. omega (arith, c.type_inv.bytes i)))
