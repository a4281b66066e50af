use Rattle.std.proofs.lemmas.Bool.Decides.{Decides-at}
use Rattle.lines.proofs.Overlaps.{meet_decides}
use Rattle.lines.proofs.states.Line.overlaps.Goals as goal

pub returns : goal.returns
returns c = record {
  value = c.meets.ensures;
  meaning = λ counts range fit. Decides-at _ _ c.meets.ensures (meet_decides counts _ _ range fit);
}
