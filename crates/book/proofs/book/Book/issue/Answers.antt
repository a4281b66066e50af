use Rattle.std.proofs.Common.{sym, ◌∙◌}
use Rattle.book.proofs.Refusing.{issue_gap}
use Rattle.book.proofs.book.Book.issue.Goals as goal

pub returns-clause-gap : goal.returns-clause-gap
returns-clause-gap c = λ k e. issue_gap c.args.self.now.contents k (sym c.issue.ensures.answer ∙ e)
