use Rattle.std.proofs.Common.{◌≡◌, drop}
use Rattle.classes.specs.Spans.{spans_ordered, spans_ordered_from}
use Rattle.classes.proofs.spans.in_order.Given as goal

-- the spans passed so far are in order, so the rest decides
abbrev pub invariant-loop-span : goal.invariant-loop-span
invariant-loop-span g l = spans_ordered g.K.Key.upto l.spans ≡ spans_ordered_from g.K.Key.upto l.before (drop l.span-index l.spans)
