use Rattle.std.proofs.Common.{◌+◌, ◌-◌, ◌++◌, length, take, drop, refl, ap, ◌∙◌, arith}
use Rattle.std.proofs.lemmas.List.{drop-drop}
use Rattle.sheet.specs.Fields.{written}
use Rattle.sheet.proofs.fields.put.Goals as goal

pub returns : goal.returns
unfolding written
returns c =
    let space = c.args.space.now in
    let bytes = c.args.bytes.now in
    let p = c.args.place in
    record {
      after =
          ap (λ xs. take p space ++ (xs ++ drop (p + length bytes - p) (drop p space))) c.copy_from_slice.ensures.after
          ∙ ap (λ xs. take p space ++ (bytes ++ xs)) (drop-drop (p + length bytes - p) p space ∙ ap (λ n. drop n space) (omega arith));
      place = refl;
    }
