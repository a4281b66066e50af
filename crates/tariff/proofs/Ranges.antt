-- Numbers in range make a tariff that has those numbers.
use Rattle.std.proofs.Common.{◌≡◌, ℕ, ◌≤◌, Bool, true, false, cond, Some, None, Ok, Option, sym, refl, subst, arith, MatchOption}
use Rattle.std.proofs.lemmas.Bool.Decides.{nat_tests}
use Rattle.tariff.specs.declared.codes.Measure.{Measure}
use Rattle.tariff.specs.declared.codes.Measure.TheVariants.{Metres, Minutes, Events}
use Rattle.tariff.specs.declared.codes.Rounding.{Rounding}
use Rattle.tariff.specs.declared.codes.Rounding.TheVariants.{Up, Down, Nearest}
use Rattle.tariff.specs.declared.terms.Tariff.{Tariff}
use Rattle.tariff.specs.declared.terms.Terms.{Terms}
use Rattle.std.specs.Option.{ok_or}
use Rattle.tariff.specs.Codes.{choice_of, measure_code, measure_coded, rounding_code, rounding_coded, out_of_range}
use Rattle.tariff.specs.Ranges.{checked, tariff_with, numbers_of, sums_in_range, InRange, SumsInRange, Made}

-- a code that is read is the code of what it reads, and is 1, 2 or 3
pub coded_back : {A : Type 0} (code : A → ℕ) (a b c : A) → code a ≡ 1 → code b ≡ 2 → code c ≡ 3 → (n : ℕ) (x : A) → Some x ≡ choice_of a b c n → (code x ≡ n) × (1 ≤ n) × (n ≤ 3)
coded_back code a b c p q r n x e = grind (arith, nat_tests)

pub sums_exact : (p : Terms) → sums_in_range p ≡ true → SumsInRange p
sums_exact p e = grind (arith, nat_tests)

pub measure_back : (n : ℕ) (m : Measure) → Some m ≡ measure_coded n → (measure_code m ≡ n) × (1 ≤ n) × (n ≤ 3)
measure_back = coded_back measure_code Metres Minutes Events refl refl refl

pub rounding_back : (n : ℕ) (k : Rounding) → Some k ≡ rounding_coded n → (rounding_code k ≡ n) × (1 ≤ n) × (n ≤ 3)
rounding_back = coded_back rounding_code Up Down Nearest refl refl refl

-- what is read from a code, and not refused
pub coded : {A : Type 0} (o : Option A) (x : A) → Ok x ≡ ok_or o out_of_range → Some x ≡ o
coded None x e = absurd (let z : ◌≡◌ {A = ℕ} 0 1 = cc in omega (arith, z))
coded (Some y) x e = cc

-- a tariff made from numbers whose sums are in range and whose codes are read
module _ (p : Terms) (m : Measure) (k v : Rounding) (sums : sums_in_range p ≡ true) (em : Some m ≡ measure_coded p.measure) (ek : Some k ≡ rounding_coded p.rounding) (ev : Some v ≡ rounding_coded p.vat_rounding) where
  pub made_value : tariff_with p (Some m) (Some k) (Some v) ≡ checked p
  made_value = rw (sums, sym em, sym ek, sym ev)

  pub made_in_range : InRange p
  made_in_range = record {
    sums = sums_exact p sums;
    measure_low = (measure_back p.measure m em).1;
    measure_high = (measure_back p.measure m em).2;
    rounding_low = (rounding_back p.rounding k ek).1;
    rounding_high = (rounding_back p.rounding k ek).2;
    vat_rounding_low = (rounding_back p.vat_rounding v ev).1;
    vat_rounding_high = (rounding_back p.vat_rounding v ev).2;
  }

  -- the numbers come back: only the codes were changed, and their codes are the same
  pub made_back : MatchOption (tariff_with p (Some m) (Some k) (Some v)) ⊥ (λ t. numbers_of t ≡ p)
  made_back = rw ((measure_back p.measure m em).0, (rounding_back p.rounding k ek).0, (rounding_back p.vat_rounding v ev).0)

  -- so handing them in gives this tariff
  pub made : Made p (Ok (record {
    measure = m;
    unit = p.unit;
    rate = p.rate;
    rounding = k;
    threshold = p.threshold;
    offset = p.offset;
    minimum = p.minimum;
    «cap» = p.«cap»;
    vat = p.vat;
    vat_rounding = v;
  }))
  made = record { value = rw (sym made_value) refl; exact = (made_in_range, made_back) }

-- whatever numbers make a tariff are in range, and are its numbers
pub checked_exact : (p : Terms) (t : Tariff) → checked p ≡ Some t → InRange p × (numbers_of t ≡ p)
checked_exact p t e = by (sums_in_range p) (measure_coded p.measure) (rounding_coded p.rounding) (rounding_coded p.vat_rounding) refl refl refl refl e
  where
    never : None ≡ Some t → InRange p × (numbers_of t ≡ p)
    never n = absurd (let z : ◌≡◌ {A = ℕ} 0 1 = cc in omega (arith, z))

    by : (b : Bool) (m : Option Measure) (k v : Option Rounding) → sums_in_range p ≡ b → m ≡ measure_coded p.measure → k ≡ rounding_coded p.rounding → v ≡ rounding_coded p.vat_rounding → cond b (tariff_with p m k v) None ≡ Some t → InRange p × (numbers_of t ≡ p)
    by false m k v sums em ek ev n = never n
    by true None k v sums em ek ev n = never n
    by true (Some m) None v sums em ek ev n = never n
    by true (Some m) (Some k) None sums em ek ev n = never n
    by true (Some m) (Some k) (Some v) sums em ek ev made =
        (made_in_range p m k v sums em ek ev, subst (λ o. MatchOption o ⊥ (λ x. numbers_of x ≡ p)) made (made_back p m k v sums em ek ev))

-- sums in range pass the test
pub sums_from : (p : Terms) → SumsInRange p → sums_in_range p ≡ true
sums_from p s = grind (arith, nat_tests)

-- a tariff in range is made again from its numbers
pub checked_again : (t : Tariff) → InRange (numbers_of t) → checked (numbers_of t) ≡ Some t
checked_again t range = rw (sums_from (numbers_of t) range.sums, measure_again t.measure, rounding_again t.rounding, rounding_again t.vat_rounding) refl
  where
    measure_again : (m : Measure) → measure_coded (measure_code m) ≡ Some m
    measure_again Metres = refl
    measure_again Minutes = refl
    measure_again Events = refl

    rounding_again : (k : Rounding) → rounding_coded (rounding_code k) ≡ Some k
    rounding_again Up = refl
    rounding_again Down = refl
    rounding_again Nearest = refl
