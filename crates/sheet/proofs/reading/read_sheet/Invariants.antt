use Rattle.std.proofs.Common.{◌≡◌, ◌-◌, ◌≤◌, length}
use Rattle.sheet.specs.Reading.{read_on, sheet_outcome}
use Rattle.sheet.proofs.reading.read_sheet.Given as goal

abbrev pub invariant-loop-rest : goal.invariant-loop-rest
invariant-loop-rest l = record {
  within : length l.rest ≤ length l.bytes;
  outcome : read_on l.draft (length l.bytes - length l.rest) 0 l.rest ≡ sheet_outcome l.bytes;
}

abbrev pub decreases-loop-rest : goal.decreases-loop-rest
decreases-loop-rest l = length l.rest
