use Rattle.std.proofs.Common.{◌≡◌, drop}
use Rattle.classes.specs.Entries.{first_class}
use Rattle.classes.proofs.entries.Entry.first.Given as goal

-- the entries passed so far do not decide
abbrev pub invariant-loop-entry : goal.invariant-loop-entry
invariant-loop-entry g l =
    let m = g.Self.Entry in
    first_class m.given (λ e. m.covering e l.asked) l.count l.entries
    ≡ first_class m.given (λ e. m.covering e l.asked) l.count (drop l.entry-index l.entries)
