use Rattle.std.proofs.Common.{◌≡◌, rules, map, IfOk, vec_items, subst}
use Rattle.std.proofs.lemmas.Iterator.{YieldsList-from_slice, YieldsList-from_map_by}
use Rattle.std.proofs.lemmas.Iterator.Consumers.{YieldsList-from_enumerate, map_from_collect}
use Rattle.editing.specs.Calls.{asked_whole}
use Rattle.editing.proofs.Steps.{call_at, placed_calls}
use Rattle.editing.proofs.calls.calls_of.Goals as goal

pub returns : goal.returns
returns c =
    let sheets = map vec_items c.args.sheets.now in
    subst (λ asks. IfOk c.collect.result (λ calls. map asked_whole (vec_items calls) ≡ asks)) (placed_calls 0 sheets c.args.steps.now)
    (map_from_collect _ c.collect.ensures.ran (YieldsList-from_map_by _ (λ call. asked_whole call) (call_at sheets) (YieldsList-from_enumerate (YieldsList-from_slice c.args.steps.now cc) cc) c.map.ensures.closure (λ x r q k. search rules)))
