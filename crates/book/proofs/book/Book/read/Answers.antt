use Rattle.std.proofs.Common.{◌<◌, sym, ap, ◌∙◌, arith}
use Rattle.std.proofs.lemmas.List.Elements.{All-from_get_or, recursion_from_All}
use Rattle.contents.specs.Calls.{answered}
use Rattle.book.proofs.FromSheets.{acceptable_read, read_acceptable, read_rewritten}
use Rattle.book.proofs.book.Book.read.Goals as goal

pub returns-clause-acceptable : goal.returns-clause-acceptable
returns-clause-acceptable c =
    let small = recursion_from_All (λ x. x < 256) c.args.bytes.now (All-from_get_or (λ x. x < 256) c.args.bytes.now 0 (λ i within. omega (arith, c.type_inv.bytes i))) in
    λ e. read_acceptable c.args.self.now.contents _ c.args.bytes.now small c.take_sheet.ensures.after (sym c.take_sheet.ensures.answer ∙ e)

pub returns-clause-exact : goal.returns-clause-exact
returns-clause-exact c = λ b blank a. c.take_sheet.ensures.answer ∙ ap (λ w. answered w (tt {0})) (acceptable_read c.args.self.now.contents b c.args.bytes.now blank a)

pub returns-clause-rewritten : goal.returns-clause-rewritten
returns-clause-rewritten c =
    let small = recursion_from_All (λ x. x < 256) c.args.bytes.now (All-from_get_or (λ x. x < 256) c.args.bytes.now 0 (λ i within. omega (arith, c.type_inv.bytes i))) in
    λ e. read_rewritten c.args.self.now.contents _ c.args.bytes.now small c.take_sheet.ensures.after (sym c.take_sheet.ensures.answer ∙ e)
