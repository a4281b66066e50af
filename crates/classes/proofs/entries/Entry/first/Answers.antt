use Rattle.std.proofs.Common.{sym, ap, ◌∙◌}
use Rattle.std.proofs.lemmas.List.{drop_all}
use Rattle.classes.specs.Entries.{first_class}
use Rattle.classes.proofs.FirstMatch.{some_given, none_given, first_class_here, first_class_low}
use Rattle.classes.proofs.entries.Entry.first.Goals as goal

pub returns-then-decides : goal.returns-then-decides
returns-then-decides g c =
    let m = g.Self.Entry in
    let here = first_class_here m.given (λ e. m.covering e c.args.asked.now) c.args.count c.args.entries.now c.loop-entry.entry-index c.entry-item.result c.loop-entry-test.true c.entry-item.is in
    let low = first_class_low m.given (λ e. m.covering e c.args.asked.now) c.args.count c.args.entries.now c.loop-entry.entry-index c.entry-item.result c.loop-entry-test.true c.entry-item.is c.if-decides.ensures in
    let value = c.class.ensures ∙ here c.if-decides.ensures ∙ sym c.loop-entry.invariant in
    some_given _ _ (rw c.class.ensures low) value

pub returns : goal.returns
returns g c =
    let m = g.Self.Entry in
    let value = sym (c.loop-entry.invariant ∙ ap (first_class m.given (λ e. m.covering e c.args.asked.now) c.args.count) (drop_all _ _ c.loop-entry-test.false)) in
    none_given _ value
