use Rattle.std.proofs.Common.{◌≡◌, length, drop, Some}
use Rattle.script.specs.Pieces.{pieces}
use Rattle.script.specs.Sets.{no_classes, union_from}
use Rattle.script.proofs.sets.class_set.Given as goal

-- the items passed so far are in the set, and the rest decides
abbrev pub invariant-loop-piece : goal.invariant-loop-piece
invariant-loop-piece l = union_from (Some l.set) (drop (length l.yielded) (pieces 44 l.fn.word)) ≡ union_from (Some no_classes) (pieces 44 l.fn.word)
