use Rattle.std.proofs.Common.{◌≡◌, ℕ, ◌+◌, ◌-◌, ◌<◌, ◌≤◌, List, length, get_or, take, drop, sym, refl, ap, ◌∙◌, arith}
use Rattle.std.proofs.lemmas.List.{length-append, take_rest}
use Rattle.sheet.specs.Fields.{written}
use Rattle.sheet.specs.Writing.{table_bytes}
use Rattle.sheet.proofs.Bytes.{written_then}
use Rattle.sheet.proofs.Lengths.{table_more, table_all, written_nothing, written_part}
use Rattle.sheet.proofs.writing.write_table.Goals as goal

-- how much is left to write, with one record more
left_to_write : {A : Type 0} (bytes : A → ℕ → List ℕ) (i : ℕ) (table : List A) (x : A) → i < length table → x ≡ get_or table i x → length (table_bytes bytes (i + 1) (drop i table)) ≡ length (bytes x (i + 1)) + length (table_bytes bytes (i + 1 + 1) (drop (i + 1) table))
left_to_write bytes i table x within here =
    ap length (table_more bytes (i + 1) i table x within here) ∙ length-append (bytes x (i + 1)) (table_bytes bytes (i + 1 + 1) (drop (i + 1) table))

pub loop-passed-preserved : goal.loop-passed-preserved
loop-passed-preserved g c =
    let bytes = g.T.Listed.bytes in
    let i = c.loop-passed.passed in
    let place = c.loop-passed.place in
    let table = c.args.table.now in
    let space = c.loop-passed.space in
    let x = c.index-table-passed.result in
    let record_bytes = bytes x (i + 1) in
    let rest = table_bytes bytes (i + 1 + 1) (drop (i + 1) table) in
    let more = left_to_write bytes i table x c.loop-passed-test.true c.index-table-passed.is in
    let wrote = written_part place record_bytes (take (length space - place) (drop place space)) c.write-place.new.space space (take_rest space place) c.write-place.ensures.after in
    let fits : place + (length record_bytes + length rest) ≤ length space = omega (arith, more, c.loop-passed.invariant.place, c.requires.room, c.loop-passed.auto.space) in
    let both = written_then place (place + c.write-place.result) (length record_bytes) (length rest) record_bytes rest space _ _ refl refl wrote refl (ap (λ n. place + n) c.write-place.ensures.value) fits in
    record {
      place = omega (arith, more, c.loop-passed.invariant.place, c.write-place.ensures.value);
      space = both ∙ ap (λ bs. written place bs space) (sym (table_more bytes (i + 1) i table x c.loop-passed-test.true c.index-table-passed.is)) ∙ c.loop-passed.invariant.space;
    }

pub returns : goal.returns
returns g c =
    let i = c.loop-passed.passed in
    let none = table_all g.T.Listed.bytes (i + 1) i c.args.table.now c.loop-passed-test.false in
    record {
      after = sym (written_nothing c.loop-passed.place c.loop-passed.space) ∙ ap (λ bs. written c.loop-passed.place bs c.loop-passed.space) (sym none) ∙ c.loop-passed.invariant.space;
      value = omega (arith, ap length none, c.loop-passed.invariant.place);
    }
