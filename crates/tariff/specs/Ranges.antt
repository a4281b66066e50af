-- Which numbers make a tariff. `InRange` says it; `checked` gives the tariff that they make, and `numbers_of` gives the numbers back.
use Rattle.std.specs.Prelude.{◌≡◌, ◌≤◌, Bool, cond, ◌&&◌, Some, None, Option, Result, MatchOption, nat_le}
use Rattle.std.specs.Option.{ok_or}
use Rattle.std.specs.Result.{result_ok}
use Rattle.tariff.specs.declared.codes.OutOfRange.{OutOfRange}
use Rattle.tariff.specs.declared.codes.Measure.{Measure}
use Rattle.tariff.specs.declared.codes.Rounding.{Rounding}
use Rattle.tariff.specs.declared.terms.Tariff.{Tariff}
use Rattle.tariff.specs.declared.terms.Terms.{Terms}
use Rattle.tariff.specs.Codes.{measure_code, measure_coded, rounding_code, rounding_coded, out_of_range}

-- the units, sums of money and percentage of a tariff
pub record SumsInRange (p : Terms) : Type 0 where
  pub unit_low : 1 ≤ p.unit
  pub unit_high : p.unit ≤ 1000000
  pub rate_high : p.rate ≤ 1000000
  pub threshold_high : p.threshold ≤ 1000000000
  pub offset_high : p.offset ≤ 1000000000
  pub minimum_high : p.minimum ≤ p.«cap»
  pub cap_high : p.«cap» ≤ 1000000000
  pub vat_high : p.vat ≤ 10000

-- every number of a tariff
pub record InRange (p : Terms) : Type 0 where
  pub sums : SumsInRange p
  pub measure_low : 1 ≤ p.measure
  pub measure_high : p.measure ≤ 3
  pub rounding_low : 1 ≤ p.rounding
  pub rounding_high : p.rounding ≤ 3
  pub vat_rounding_low : 1 ≤ p.vat_rounding
  pub vat_rounding_high : p.vat_rounding ≤ 3

-- the same as a test
abbrev pub sums_in_range : Terms → Bool
sums_in_range p = nat_le 1 p.unit && nat_le p.unit 1000000 && nat_le p.rate 1000000 && nat_le p.threshold 1000000000 && nat_le p.offset 1000000000 && nat_le p.minimum p.«cap» && nat_le p.«cap» 1000000000 && nat_le p.vat 10000

-- the tariff with these numbers, once its three codes are read
abbrev pub tariff_with : Terms → Option Measure → Option Rounding → Option Rounding → Option Tariff
tariff_with p None k v = None
tariff_with p (Some m) None v = None
tariff_with p (Some m) (Some k) None = None
tariff_with p (Some m) (Some k) (Some v) = Some (record {
  measure = m;
  unit = p.unit;
  rate = p.rate;
  rounding = k;
  threshold = p.threshold;
  offset = p.offset;
  minimum = p.minimum;
  «cap» = p.«cap»;
  vat = p.vat;
  vat_rounding = v;
})

abbrev pub checked : Terms → Option Tariff
checked p = cond (sums_in_range p) (tariff_with p (measure_coded p.measure) (rounding_coded p.rounding) (rounding_coded p.vat_rounding)) None

-- the numbers of a tariff
abbrev pub numbers_of : Tariff → Terms
numbers_of t = record {
  measure = measure_code t.measure;
  unit = t.unit;
  rate = t.rate;
  rounding = rounding_code t.rounding;
  threshold = t.threshold;
  offset = t.offset;
  minimum = t.minimum;
  «cap» = t.«cap»;
  vat = t.vat;
  vat_rounding = rounding_code t.vat_rounding;
}

-- what handing in numbers gives: the tariff that they make exactly if they are in range, and then they are its numbers
pub record Made (p : Terms) (r : Result Tariff OutOfRange) : Type 0 where
  pub value : r ≡ ok_or (checked p) out_of_range
  pub exact : MatchOption (result_ok r) (InRange p → ⊥) (λ t. InRange p × (numbers_of t ≡ p))
