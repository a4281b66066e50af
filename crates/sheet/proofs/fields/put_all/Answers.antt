use Rattle.std.proofs.Common.{ℕ, ◌+◌, ◌≤◌, List, Bor, [], length, get_or, take, sym, refl, ap, ◌∙◌, arith}
use Rattle.std.proofs.lemmas.List.{length-append}
use Rattle.std.proofs.lemmas.List.Folds.{length-flat_map-take}
use Rattle.sheet.specs.Fields.{written, joined}
use Rattle.sheet.proofs.Bytes.{written_then, joined_more}
use Rattle.sheet.proofs.Lengths.{written_nothing}
use Rattle.sheet.proofs.fields.put_all.Goals as goal

pub loop-part-init : goal.loop-part-init
loop-part-init c = record { place = refl; space = sym (written_nothing 0 c.args.space.now) }

pub put-place-requires : goal.put-place-requires
put-place-requires c =
    omega (arith, length-flat_map-take (λ (part : Bor (List ℕ)). part.now) c.args.parts.now c.loop-part.part-index (record { ref_ptr = (0, 0); now = [] }) c.loop-part-test.true)

pub loop-part-preserved : goal.loop-part-preserved
loop-part-preserved c =
    let parts = c.args.parts.now in
    let i = c.loop-part.part-index in
    let part : Bor (List ℕ) = get_or parts i (record { ref_ptr = (0, 0); now = [] }) in
    let before = joined (take i parts) in
    let more = joined_more parts i (record { ref_ptr = (0, 0); now = [] }) c.loop-part-test.true in
    let fits : 0 + (length before + length part.now) ≤ length c.args.space.now = omega (arith, length-flat_map-take (λ (part : Bor (List ℕ)). part.now) parts i (record { ref_ptr = (0, 0); now = [] }) c.loop-part-test.true) in
    let both = written_then 0 c.loop-part.place (length before) (length part.now) before part.now c.args.space.now c.loop-part.space c.put-place.new.space refl refl c.loop-part.invariant.space c.put-place.ensures.after (omega arith) fits in
    record {
      place = omega (arith, c.put-place.ensures.place, c.loop-part.invariant.place, ap length more, length-append before part.now);
      space = both ∙ ap (λ bytes. written 0 bytes c.args.space.now) (sym more);
    }
