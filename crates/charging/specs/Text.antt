-- What is printed of a price.
use Rattle.std.specs.Prelude.{ℕ, List, ◌++◌, codes, decimal}
use Rattle.tariff.specs.Text.{charge_text}
use Rattle.charging.specs.declared.pricing.Price.{Price}

-- "line 1 tariff 1 fee 100 vat 19"
abbrev pub price_text : Price → List ℕ
price_text p = codes "line " ++ (decimal p.line ++ (codes " tariff " ++ (decimal p.tariff ++ (codes " " ++ charge_text p.charge))))
