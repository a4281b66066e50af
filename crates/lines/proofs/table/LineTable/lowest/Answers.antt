use Rattle.std.proofs.Common.{◌≡◌, ◌+◌, option_map, refl, ◌∙◌, ap, rules}
use Rattle.std.specs.Fn.{Called}
use Rattle.std.specs.List.{position_from}
use Rattle.std.proofs.lemmas.Iterator.{YieldsList-from_slice}
use Rattle.std.proofs.lemmas.Iterator.Search.{position_from_yields_List}
use Rattle.std.proofs.lemmas.Iterator.Adapters.{position_from-zero}
use Rattle.lines.proofs.Numbers.{number_from_place}
use Rattle.lines.proofs.table.LineTable.lowest.Goals as goal

pub returns : goal.returns
returns g c test same =
    let at : c.position.result ≡ position_from test 0 c.args.self.now.states =
    position_from_yields_List test _ _ c.position.result c.position.ensures.ran (YieldsList-from_slice c.args.self.now.states (cc))
    (λ x b q k.
    let called : Called g.F.Fn c.args.passes (x, tt) b q = record { met = k.met } in
    (g.met.F.Fn.1.step_stays _ _ _ _ called, same x.now b (record { shown = x; shows = refl; says = record { met = (g.met.F.FnMut.1.post_iff _ _ _).1 (q, called) } })))
    ∙ position_from-zero test c.args.self.now.states
    in
    let mapped : c.map.result ≡ option_map (λ n. n + 1) c.position.result = search (rules, c.map.ensures) in
    mapped ∙ ap (option_map (λ n. n + 1)) at ∙ number_from_place test c.args.self.now.states 0
