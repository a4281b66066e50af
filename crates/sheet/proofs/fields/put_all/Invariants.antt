use Rattle.std.proofs.Common.{◌≡◌, length, take}
use Rattle.sheet.specs.Fields.{written, joined}
use Rattle.sheet.proofs.fields.put_all.Given as goal

abbrev pub invariant-loop-part : goal.invariant-loop-part
invariant-loop-part l = record {
  place : l.place ≡ length (joined (take l.part-index l.parts));
  space : l.space ≡ written 0 (joined (take l.part-index l.parts)) l.initial.space;
}
