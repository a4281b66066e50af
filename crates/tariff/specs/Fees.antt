-- What a tariff charges for an amount of its measure.
use Rattle.std.specs.Prelude.{ℕ, ◌+◌, ◌*◌, min, max, cond, nat_lt}
use Rattle.tariff.specs.declared.charge.Amounts.{Amounts}
use Rattle.tariff.specs.declared.charge.Charge.{Charge}
use Rattle.tariff.specs.declared.codes.Measure.{Measure}
use Rattle.tariff.specs.declared.codes.Measure.TheVariants.{Metres, Minutes, Events}
use Rattle.tariff.specs.declared.terms.Tariff.{Tariff}
use Rattle.tariff.specs.Quotients.{rounded}

-- the amount that a measure counts
abbrev pub amount_of : Measure → Amounts → ℕ
amount_of Metres a = a.metres
amount_of Minutes a = a.minutes
amount_of Events a = a.events

-- rate x amount / unit, rounded
abbrev pub base_of : Tariff → ℕ → ℕ
base_of t amount = rounded t.rounding (t.rate * amount) t.unit

-- a base below the threshold is free; else the offset is added, the sum raised to the minimum and cut to the cap
abbrev pub fee_of : Tariff → ℕ → ℕ
fee_of t amount =
    cond (nat_lt (base_of t amount) t.threshold) 0 (min (max (base_of t amount + t.offset) t.minimum) t.«cap»)

-- fee x vat / 10,000, rounded
abbrev pub vat_of : Tariff → ℕ → ℕ
vat_of t fee = rounded t.vat_rounding (fee * t.vat) 10000

abbrev pub charge_of : Tariff → Amounts → Charge
charge_of t a = let fee : ℕ = fee_of t (amount_of t.measure a) in record { fee = fee; vat = vat_of t fee }
