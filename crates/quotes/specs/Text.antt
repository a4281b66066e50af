-- The line of a quote: the trip's number, then its classes, fee and VAT, or its refusal by number and values.
use Rattle.std.specs.Prelude.{ℕ, List, ◌++◌, codes, decimal}
use Rattle.classes.specs.Outcomes.{Outcome, accepted, refusal}
use Rattle.classes.specs.Text.{classes_text, refusal_text}
use Rattle.tariff.specs.Text.{charge_text}
use Rattle.quotes.specs.declared.prices.Quote.{Quote}

abbrev pub quote_text : Quote → List ℕ
quote_text q = codes "classes " ++ (classes_text q.classes ++ (codes " " ++ charge_text q.charge))

abbrev pub line_text : ℕ → Outcome Quote → List ℕ
line_text n (accepted q) = decimal n ++ (codes " " ++ quote_text q)
line_text n (refusal r) = decimal n ++ (codes " refused " ++ refusal_text r)
