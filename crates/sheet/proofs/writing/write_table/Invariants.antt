use Rattle.std.proofs.Common.{◌≡◌, ◌+◌, length, drop}
use Rattle.sheet.specs.Fields.{written}
use Rattle.sheet.specs.Writing.{table_bytes}
use Rattle.sheet.proofs.writing.write_table.Given as goal

abbrev pub invariant-loop-passed : goal.invariant-loop-passed
invariant-loop-passed g l = record {
  place : l.place + length (table_bytes g.T.Listed.bytes (l.passed + 1) (drop l.passed l.table)) ≡ l.start + length (table_bytes g.T.Listed.bytes 1 l.table);
  space : written l.place (table_bytes g.T.Listed.bytes (l.passed + 1) (drop l.passed l.table)) l.space ≡ written l.start (table_bytes g.T.Listed.bytes 1 l.table) l.initial.space;
}
