use Rattle.std.proofs.Common.{◌∙◌, rules}
use Rattle.std.proofs.lemmas.Bool.{le-leb}
use Rattle.lines.proofs.Bits.{within_wide, none_left}
use Rattle.lines.proofs.sets.ClassSet.none_above.Goals as goal

pub returns-then-count-ge-HIGHEST_CLASS : goal.returns-then-count-ge-HIGHEST_CLASS
returns-then-count-ge-HIGHEST_CLASS c =
    let wide = c.if-count-ge-HIGHEST_CLASS.true in
    le-leb 64 c.args.count wide ∙ within_wide c.args.self.0 c.args.count (search rules) wide

pub returns-else-count-ge-HIGHEST_CLASS : goal.returns-else-count-ge-HIGHEST_CLASS
returns-else-count-ge-HIGHEST_CLASS c = none_left c.args.self.0 c.args.count
