use Rattle.std.proofs.Common.{◌≡◌, map, length, IfOk, vec_items, vec_len, sym, ap, ◌∙◌, subst}
use Rattle.std.proofs.lemmas.List.{length-map}
use Rattle.law.specs.Histories.{history_of}
use Rattle.law.specs.Law.{Lawful}
use Rattle.journal.specs.Asked.{told}
use Rattle.journal.specs.Replays.{entries}
use Rattle.editing.specs.Calls.{asked_whole}
use Rattle.editing.proofs.Steps.{length_calls}
use Rattle.editing.proofs.calls.answers.Goals as goal

pub returns : goal.returns
returns c =
    let same = ap (map asked_whole) c.as_slice.ensures.value ∙ c.in_ok-calls.ensures in
    let many = sym (length-map _ asked_whole) ∙ ap length same ∙ length_calls 0 (map vec_items c.args.sheets.now) c.args.steps.now in
    record {
      many = subst (λ n. IfOk c.replay.result (λ answers. vec_len answers ≡ n)) many c.replay.ensures.many;
      lawful = subst (λ asks. IfOk c.replay.result (λ answers. Lawful (entries asks (map told (vec_items answers))))) same c.replay.ensures.lawful;
      answers = subst (λ asks. IfOk c.replay.result (λ answers. entries asks (map told (vec_items answers)) ≡ history_of asks)) same c.replay.ensures.answers;
    }
