-- Class 1 for two axles, 2 for three, 3 for four and more, and none below two.
use Rattle.std.specs.Prelude.{◌-◌, min}
use Rattle.std.proofs.Common.{arith}
use Rattle.classes.specs.Determinants.{Meaning}

abbrev pub by_axles : Meaning
by_axles = record {
  count = 3;
  class = λ u. min (u.axles - 1) 3;
  within = λ u. omega arith;
}
