use Rattle.std.proofs.Common.{take, sym, ap, ◌∙◌}
use Rattle.std.proofs.lemmas.List.{take_rest}
use Rattle.std.proofs.lemmas.Option.{MatchOption-at_some}
use Rattle.sheet.proofs.Bytes.{bytes_part}
use Rattle.sheet.proofs.fields.bytes_at.Goals as goal

pub returns : goal.returns
returns g c =
    let body = c.args.body.now in
    let place = c.args.place in
    let first = MatchOption-at_some _ _ _ c.unwrap.ensures c.first_chunk.ensures.cases in
    first.same ∙ ap (take g.row.N) (take_rest body place) ∙ sym (bytes_part body place g.row.N c.requires)
