use Rattle.std.proofs.Common.{◌≡◌, ℕ, ◌+◌, ◌≤◌, ◌++◌, length, sym, refl, ap, ◌∙◌, arith}
use Rattle.std.proofs.lemmas.List.{length-append}
use Rattle.classes.specs.Outcomes.{accepted}
use Rattle.classes.proofs.Clash.{clash}
use Rattle.contents.specs.Calls.{answered}
use Rattle.sheet.specs.Refusals.{left_by}
use Rattle.sheet.specs.Fields.{written}
use Rattle.sheet.specs.Records.{opening_record, end_record}
use Rattle.sheet.specs.Writing.{tariff_bytes, line_bytes, table_bytes, sheet_of}
use Rattle.sheet.proofs.Bytes.{written_then}
use Rattle.sheet.proofs.Lengths.{length_sheet, write_taken}
use Rattle.sheet.proofs.writing.write_sheet.Goals as goal

pub write_opening-place-requires : goal.write_opening-place-requires
write_opening-place-requires c = omega (arith, length_sheet c.args.contents.now, c.sheet_length.ensures.value, c.if-space-sheet_length.false)

pub write_table-place-requires-clause-room : goal.write_table-place-requires-clause-room
write_table-place-requires-clause-room c =
    omega (arith, length_sheet c.args.contents.now, c.sheet_length.ensures.value, c.if-space-sheet_length.false, c.write_opening-place.ensures.value, c.write_opening-place.auto.space)

pub write_table-place-requires-2-clause-room : goal.write_table-place-requires-2-clause-room
write_table-place-requires-2-clause-room c =
    omega (arith, length_sheet c.args.contents.now, c.sheet_length.ensures.value, c.if-space-sheet_length.false, c.write_opening-place.ensures.value, c.write_opening-place.auto.space, c.write_table-place.ensures.value, c.write_table-place.auto.space)

pub put-requires : goal.put-requires
put-requires c =
    let size = length_sheet c.args.contents.now in
    omega (arith, size, c.sheet_length.ensures.value, c.if-space-sheet_length.false, c.write_opening-place.ensures.value, c.write_opening-place.auto.space, c.write_table-place.ensures.value, c.write_table-place.auto.space, c.write_table-place-2.ensures.value, c.write_table-place-2.auto.space)

pub returns : goal.returns
unfolding sheet_of
returns c =
    let b = c.args.contents.now in
    let opening = opening_record b.version b.counts in
    let tariffs = table_bytes tariff_bytes 1 b.tariffs in
    let lines = table_bytes line_bytes 1 b.lines.states in
    let size = length_sheet b in
    let room : length (sheet_of b) ≤ length c.args.space.now = omega (arith, c.sheet_length.ensures.value, c.if-space-sheet_length.false) in
    let place-1 = c.write_opening-place.ensures.value in
    let place-2 : c.write_table-place.result ≡ c.write_opening-place.result + length tariffs = c.write_table-place.ensures.value in
    let place-3 : c.write_table-place-2.result ≡ c.write_table-place.result + length lines = c.write_table-place-2.ensures.value in
    let after_lines = length-append lines end_record in
    let after_tariffs = length-append tariffs (lines ++ end_record) in
    let kept-1 = c.write_opening-place.auto.space in
    let kept-2 = c.write_table-place.auto.space in
    let from_lines = written_then c.write_table-place.result c.write_table-place-2.result (length lines) 1 lines end_record c.write_table-place.new.space c.write_table-place-2.new.space c.put.new.space refl refl c.write_table-place-2.ensures.after c.put.ensures.after place-3 (omega (arith, size, room, place-1, place-2, kept-1, kept-2)) in
    let from_tariffs = written_then c.write_opening-place.result c.write_table-place.result (length tariffs) (length (lines ++ end_record)) tariffs (lines ++ end_record) c.write_opening-place.new.space c.write_table-place.new.space c.put.new.space refl refl c.write_table-place.ensures.after from_lines place-2 (omega (arith, size, room, place-1, after_lines, kept-1)) in
    let whole = written_then 0 c.write_opening-place.result 6 (length (tariffs ++ (lines ++ end_record))) opening (tariffs ++ (lines ++ end_record)) c.args.space.now c.write_opening-place.new.space c.put.new.space refl refl c.write_opening-place.ensures.after from_tariffs place-1 (omega (arith, size, room, after_lines, after_tariffs)) in
    let none = write_taken b (length c.args.space.now) c.in_default.not-Blank room in
    let answer_length : c.put.result ≡ length (sheet_of b) = omega (arith, size, place-1, place-2, place-3, c.put.ensures.place) in
    record {
      answer = ap accepted answer_length ∙ sym (ap (λ w. answered w (length (sheet_of b))) none);
      after = whole ∙ sym (ap (λ w. left_by w c.args.space.now (written 0 (sheet_of b) c.args.space.now)) none);
      longest = λ e. clash cc;
    }
