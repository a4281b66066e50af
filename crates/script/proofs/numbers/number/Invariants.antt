use Rattle.std.proofs.Common.{◌≡◌, ◌≤◌, drop}
use Rattle.script.proofs.Digits.{read_on}
use Rattle.script.proofs.numbers.number.Given as goal

-- the digits passed so far write a number that is not too large, and the rest decides
abbrev pub invariant-loop-byte : goal.invariant-loop-byte
invariant-loop-byte l = (l.value ≤ l.most) × (read_on l.most l.value (drop l.byte-index l.word) ≡ read_on l.most 0 l.word)
