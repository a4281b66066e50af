-- What a trip costs by a price list.
use Rattle.std.specs.Prelude.{ℕ, Bool, ◌&&◌, List, Some, None, Option, ◌==◌}
use Rattle.std.specs.List.{find}
use Rattle.classes.specs.declared.refusal.Classes.{Classes}
use Rattle.classes.specs.declared.usage.Usage.{Usage}
use Rattle.classes.specs.Determinants.{Meanings}
use Rattle.classes.specs.Outcomes.{Outcome, accepted, refusal, classified}
use Rattle.charging.specs.Prices.{amounts_of}
use Rattle.tariff.specs.declared.terms.Tariff.{Tariff}
use Rattle.tariff.specs.Fees.{charge_of}
use Rattle.quotes.specs.declared.prices.Quote.{Quote}
use Rattle.quotes.specs.declared.prices.Rate.{Rate}

-- the same tariff at another rate
abbrev pub at_rate : Tariff → ℕ → Tariff
at_rate t n = record {
  measure = t.measure;
  unit = t.unit;
  rate = n;
  rounding = t.rounding;
  threshold = t.threshold;
  offset = t.offset;
  minimum = t.minimum;
  «cap» = t.«cap»;
  vat = t.vat;
  vat_rounding = t.vat_rounding;
}

-- the rate names these vehicle and location classes
abbrev pub is_for : Rate → Classes → Bool
is_for r c = r.vehicle == c.vehicle && r.location == c.location

-- the tariff at a rate that was found, or as it is
abbrev pub at_found : Tariff → Option Rate → Tariff
at_found general None = general
at_found general (Some r) = at_rate general r.rate

-- the general tariff, at the first rate for the vehicle and location classes
abbrev pub tariff_for : Tariff → List Rate → Classes → Tariff
tariff_for general rates c = at_found general (find (λ r. is_for r c) rates)

-- the quote for these classes, where no determinant refused
abbrev pub quoted : Tariff → List Rate → Usage → Outcome Classes → Outcome Quote
quoted general rates u (accepted c) = accepted (record { classes = c; charge = charge_of (tariff_for general rates c) (amounts_of u) })
quoted general rates u (refusal r) = refusal r

abbrev pub quote_outcome : Tariff → List Rate → Usage → Meanings → Outcome Quote
quote_outcome general rates u d = quoted general rates u (classified d u)
