use Rattle.std.proofs.Common.{length, refl, ap, ◌∙◌, rules, tests}
use Rattle.std.specs.Prelude.{not, ◌==◌}
use Rattle.std.specs.Option.{unwrap_or}
use Rattle.std.proofs.lemmas.Iterator.{YieldsList-from_slice}
use Rattle.std.proofs.lemmas.Iterator.Search.{position_from_yields_List}
use Rattle.std.proofs.lemmas.List.Sums.{prefix_len-le-length}
use Rattle.script.proofs.FirstWord.{place_or_end}
use Rattle.script.proofs.words.word_length.Goals as goal

pub returns : goal.returns
returns c =
    let text = c.args.text.now in
    c.unwrap_or.ensures ∙ ap (λ o. unwrap_or o (length text)) (position_from_yields_List (λ b. b == 32) _ _ _ c.position.ensures.ran (YieldsList-from_slice text cc) (λ x b q k. search (rules, tests))) ∙ place_or_end _ _ _ (prefix_len-le-length (λ b. not (b == 32)) text) refl
