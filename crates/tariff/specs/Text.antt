-- What is printed of a charge.
use Rattle.std.specs.Prelude.{ℕ, List, ◌++◌, codes, decimal}
use Rattle.tariff.specs.declared.charge.Charge.{Charge}

abbrev pub charge_text : Charge → List ℕ
charge_text c = codes "fee " ++ (decimal c.fee ++ (codes " vat " ++ decimal c.vat))
