use Rattle.std.proofs.Common.{refl}
use Rattle.tariff.specs.Quotients.{rounded}
use Rattle.figures.proofs.proved_figures.Goals as goal

-- each row computes
pub returns : goal.returns
unfolding rounded
returns c = record {
  count = c.rows.ensures;
  hold = (refl, (refl, (refl, (refl, (refl, (refl, (refl, (refl, (refl, (refl, (refl, (refl, (refl, (refl, (refl, tt)))))))))))))));
}
