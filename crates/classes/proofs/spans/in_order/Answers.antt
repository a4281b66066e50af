use Rattle.std.proofs.Common.{sym, refl, ap, ◌∙◌}
use Rattle.std.proofs.lemmas.List.{drop_all}
use Rattle.std.proofs.lemmas.Bool.{false≢true}
use Rattle.classes.specs.Spans.{spans_ordered_from}
use Rattle.classes.proofs.SpanOrder.{ordered_stops, in_order, spans_ordered_back, no_key_twice}
use Rattle.classes.proofs.spans.in_order.Goals as goal

pub returns-then-not-follows : goal.returns-then-not-follows
returns-then-not-follows g c =
    let upto = g.K.Key.upto in
    let stops = ordered_stops upto c.args.spans.now c.loop-span.span-index c.span-item.result c.loop-span.before c.loop-span-test.true c.span-item.is c.if-not-follows.ensures in
    let refused = sym (c.loop-span.invariant ∙ stops) in
    record {
      value = refused;
      exact = ((λ e. absurd (false≢true e)), (λ facts. refused ∙ spans_ordered_back upto c.args.spans.now facts));
      apart = λ e. absurd (false≢true e);
    }

pub returns : goal.returns
returns g c =
    let upto = g.K.Key.upto in
    let laws = g.met.K.Key in
    let passed = c.loop-span.invariant ∙ ap (spans_ordered_from upto c.loop-span.before) (drop_all _ _ c.loop-span-test.false) in
    let facts = in_order upto c.args.spans.now passed in
    record {
      value = sym passed;
      exact = ((λ _. facts), (λ _. refl));
      apart = λ _. no_key_twice upto laws.total laws.carries c.args.spans.now facts;
    }
