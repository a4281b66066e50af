use Rattle.std.proofs.Common.{◌≡◌, not, [], ◌∷◌, sym, refl, ◌∙◌, arith, rules}
use Rattle.std.specs.Prelude.{◌==◌}
use Rattle.std.proofs.lemmas.List.Sums.{prefix_len-le-length}
use Rattle.script.specs.Pieces.{words_of}
use Rattle.script.proofs.FirstWord.{no_word, word_first}
use Rattle.script.proofs.words.WordsIterator.next.Goals as goal
use Rattle.script.proofs.words.WordsIterator.next.Goals.{After-split_at-2}

pub returns-in_err-word_start-clause-steps : goal.returns-in_err-word_start-clause-steps
returns-in_err-word_start-clause-steps c =
    let none : c.args.self.now ≡ [] = sym c.self.view_is ∙ no_word c.self.inside.rest.now _ refl c.in_err-word_start.ensures in
    rw c.from_residual.ensures (none, none)

pub split_at-requires-2 : goal.split_at-requires-2
split_at-requires-2 c = omega (arith, c.word_length.ensures, prefix_len-le-length (λ b. not (b == 32)) c.split_at.result.1.now)

first : (c : After-split_at-2) → c.args.self.now ≡ c.split_at-2.result.0.now ∷ words_of c.split_at-2.result.1.now
first c = sym c.self.view_is ∙ word_first c.self.inside.rest.now _ _ _ _ _ c.in_ok-word_start.ensures c.split_at.ensures.back c.word_length.ensures c.split_at-2.ensures.front c.split_at-2.ensures.back

pub returns-clause-steps : goal.returns-clause-steps
returns-clause-steps c = first (goal.at.returns-clause-steps c).After-split_at-2

pub returns-clause-goes : goal.returns-clause-goes
returns-clause-goes c = rw (first (goal.at.returns-clause-goes c).After-split_at-2) (search rules)
