-- Pricing. Four determinants class a usage; the line that claims the four classes gives the tariff, and the tariff the
-- charge. Only what the determinants mean counts.
use Rattle.std.specs.Prelude.{◌≡◌, ℕ, Bool, true, ◌&&◌, [], ◌∷◌, Some, None, Option, ◌==◌, nat_le, nat_lt}
use Rattle.std.specs.Option.{unwrap_or}
use Rattle.classes.specs.declared.refusal.Classes.{Classes}
use Rattle.classes.specs.declared.usage.Usage.{Usage}
use Rattle.classes.specs.Determinants.{Meanings}
use Rattle.tariff.specs.declared.charge.Amounts.{Amounts}
use Rattle.tariff.specs.declared.terms.Tariff.{Tariff}
use Rattle.tariff.specs.Fees.{charge_of}
use Rattle.lines.specs.declared.sets.Counts.{Counts}
use Rattle.lines.specs.declared.states.Line.{Line}
use Rattle.lines.specs.declared.states.LineState.{LineState}
use Rattle.lines.specs.declared.states.LineState.TheVariants.{Free, Live, Withdrawn}
use Rattle.lines.specs.Lines.{claims}
use Rattle.lines.specs.Tables.{first_claim}
use Rattle.contents.specs.declared.contents.Contents.{Contents}
use Rattle.contents.specs.declared.contents.Phase.TheVariants.{Issued}
use Rattle.charging.specs.declared.pricing.Price.{Price}
use Rattle.contents.specs.Contents.{in_phase, tariff_at, line_at}
use Rattle.contents.specs.Calls.{Refused, unless}

-- what was driven, in each measure
abbrev pub amounts_of : Usage → Amounts
amounts_of u = record { metres = u.metres; minutes = u.minutes; events = u.events }

abbrev pub amounts_in_range : Usage → Bool
amounts_in_range u = nat_le u.metres 10000000 && nat_le u.minutes 10000000 && nat_le u.events 10000000

abbrev pub classes_of : Meanings → Usage → Classes
classes_of d u = record { vehicle = d.vehicle.class u; time = d.time.class u; location = d.location.class u; user = d.user.class u }

-- the first determinant that has another count than the book
abbrev pub count_refusal : Counts → Meanings → Option Refused → Option Refused
count_refusal c d rest =
    unless (d.vehicle.count == c.vehicles) (14, 1 ∷ [])
    (unless (d.time.count == c.times) (14, 2 ∷ [])
    (unless (d.location.count == c.locations) (14, 3 ∷ [])
    (unless (d.user.count == c.users) (14, 4 ∷ [])
    rest)))

-- the first determinant that gives no class
abbrev pub class_refusal : Classes → Option Refused
class_refusal k =
    unless (nat_lt 0 k.vehicle) (16, 1 ∷ [])
    (unless (nat_lt 0 k.time) (16, 2 ∷ [])
    (unless (nat_lt 0 k.location) (16, 3 ∷ [])
    (unless (nat_lt 0 k.user) (16, 4 ∷ []) None)))

abbrev pub price_refusal : Contents → Meanings → Usage → Option Refused
price_refusal b d u =
    unless (in_phase Issued b) (1, [])
    (count_refusal b.counts d
    (unless (amounts_in_range u) (15, [])
    (class_refusal (classes_of d u))))

-- the charge of the lowest live line that claims the classes, by its tariff
abbrev pub by_tariff : ℕ → Line → Amounts → Option Tariff → Option Price
by_tariff n l a None = None
by_tariff n l a (Some t) = Some (record { line = n; tariff = l.tariff; charge = charge_of t a })

abbrev pub by_state : Contents → Amounts → ℕ → LineState → Option Price
by_state b a n Free = None
by_state b a n (Live l) = by_tariff n l a (tariff_at b l.tariff)
by_state b a n (Withdrawn l) = None

abbrev pub by_number : Contents → Amounts → Option ℕ → Option Price
by_number b a None = None
by_number b a (Some n) = by_state b a n (line_at b n)

abbrev pub price_of : Contents → Classes → Amounts → Option Price
price_of b k a = by_number b a (first_claim b.lines.states k)

-- in an issued book there is a price for every combination, so that the 0s are never answered
abbrev pub priced : Contents → Meanings → Usage → Price
priced b d u = unwrap_or (price_of b (classes_of d u) (amounts_of u)) (record { line = 0; tariff = 0; charge = record { fee = 0; vat = 0 } })

-- the price is that of the one live line that claims the classes, by its tariff
pub record OneLine (b : Contents) (k : Classes) (a : Amounts) (p : Price) : Type 0 where
  pub line : Line
  pub live : line_at b p.line ≡ Live line
  pub claiming : claims line k ≡ true
  pub only : (m : ℕ) (y : Line) → line_at b m ≡ Live y → claims y k ≡ true → m ≡ p.line
  pub tariff_number : p.tariff ≡ line.tariff
  pub tariff : Tariff
  pub put : tariff_at b p.tariff ≡ Some tariff
  pub charged : p.charge ≡ charge_of tariff a
