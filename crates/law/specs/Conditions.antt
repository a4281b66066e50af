-- When a call is accepted: the conditions under which none of the refusals that are named for it applies. Each call has
-- a record of them, over the plain book and the call's own arguments; `May` joins the records.
use Rattle.std.specs.Prelude.{◌≡◌, ℕ, ◌^◌, ◌<◌, ◌≤◌, List, length, Some}
use Rattle.classes.specs.declared.refusal.Classes.{Classes}
use Rattle.classes.specs.declared.usage.Usage.{Usage}
use Rattle.tariff.specs.declared.terms.Tariff.{Tariff}
use Rattle.tariff.specs.declared.terms.Terms.{Terms}
use Rattle.tariff.specs.Ranges.{InRange}
use Rattle.lines.specs.declared.sets.ClassSet.{ClassSet}
use Rattle.lines.specs.declared.sets.Counts.{Counts}
use Rattle.lines.specs.declared.states.Line.{Line}
use Rattle.lines.specs.declared.states.LineState.TheVariants.{Free, Live, Withdrawn}
use Rattle.lines.specs.Lines.{Overlap}
use Rattle.gaps.specs.Gaps.{NoGap}
use Rattle.contents.specs.declared.contents.Contents.{Contents}
use Rattle.contents.specs.declared.contents.Phase.TheVariants.{Blank, Draft, Issued}
use Rattle.contents.specs.Contents.{tariff_at, line_at}
use Rattle.sheet.specs.Acceptable.{Acceptable}
use Rattle.sheet.specs.Writing.{sheet_of}
use Rattle.classes.specs.Determinants.{Meanings}
use Rattle.charging.specs.Prices.{classes_of}
use Rattle.law.specs.Histories.{Asked, open_call, put_call, add_call, withdraw_call, restore_call, strike_call, issue_call, reopen_call, price_call, read_call, write_call}

-- a number from low to high
pub record Within (low high n : ℕ) : Type 0 where
  pub at_least : low ≤ n
  pub at_most : n ≤ high

-- tariffs are numbered from 1 to 64
abbrev pub TariffNumber : ℕ → Type 0
TariffNumber n = Within 1 64 n

-- lines are numbered from 1 to 256
abbrev pub LineNumber : ℕ → Type 0
LineNumber n = Within 1 256 n

-- each count of classes is from 1 to 64
pub record CountsInRange (c : Counts) : Type 0 where
  pub vehicles : Within 1 64 c.vehicles
  pub times : Within 1 64 c.times
  pub locations : Within 1 64 c.locations
  pub users : Within 1 64 c.users

-- a class set is not empty, and has no bit above its count
pub record SetFits (count : ℕ) (s : ClassSet) : Type 0 where
  pub not_empty : 0 < s.0
  pub none_above : s.0 < 2 ^ count

-- each of the four class sets fits its count
pub record LineFits (c : Counts) (l : Line) : Type 0 where
  pub vehicles : SetFits c.vehicles l.vehicles
  pub times : SetFits c.times l.times
  pub locations : SetFits c.locations l.locations
  pub users : SetFits c.users l.users

-- the line overlaps no live line
abbrev pub Clear : Contents → Line → Type 0
Clear b l = (m : ℕ) (y : Line) → line_at b m ≡ Live y → Overlap b.counts l y → ⊥

-- the four determinants have the counts of the book
pub record SameCounts (d : Meanings) (c : Counts) : Type 0 where
  pub vehicle : d.vehicle.count ≡ c.vehicles
  pub time : d.time.count ≡ c.times
  pub location : d.location.count ≡ c.locations
  pub user : d.user.count ≡ c.users

-- each amount of a usage is at most ten million
pub record AmountsInRange (u : Usage) : Type 0 where
  pub metres : u.metres ≤ 10000000
  pub minutes : u.minutes ≤ 10000000
  pub events : u.events ≤ 10000000

-- no class is 0
pub record Classed (k : Classes) : Type 0 where
  pub vehicle : 0 < k.vehicle
  pub time : 0 < k.time
  pub location : 0 < k.location
  pub user : 0 < k.user

-- a blank book is opened with counts in range
pub record MayOpen (b : Contents) (c : Counts) : Type 0 where
  pub blank : b.phase ≡ Blank
  pub counts : CountsInRange c

-- a tariff is put with every number in range
pub record MayPut (b : Contents) (n : ℕ) (terms : Terms) : Type 0 where
  pub draft : b.phase ≡ Draft
  pub number : TariffNumber n
  pub in_range : InRange terms

-- a line is added at a free number, by a tariff that was put, where it overlaps no live line
pub record MayAdd (b : Contents) (n : ℕ) (l : Line) : Type 0 where
  pub draft : b.phase ≡ Draft
  pub number : LineNumber n
  pub free : line_at b n ≡ Free
  pub tariff_number : TariffNumber l.tariff
  pub put : (t : Tariff) × (tariff_at b l.tariff ≡ Some t)
  pub fits : LineFits b.counts l
  pub clear : Clear b l

-- a live line is withdrawn
pub record MayWithdraw (b : Contents) (n : ℕ) : Type 0 where
  pub draft : b.phase ≡ Draft
  pub number : LineNumber n
  pub live : (l : Line) × (line_at b n ≡ Live l)

-- a withdrawn line is restored where it overlaps no live line
pub record MayRestore (b : Contents) (n : ℕ) : Type 0 where
  pub draft : b.phase ≡ Draft
  pub number : LineNumber n
  pub line : Line
  pub withdrawn : line_at b n ≡ Withdrawn line
  pub clear : Clear b line

-- a withdrawn line is struck
pub record MayStrike (b : Contents) (n : ℕ) : Type 0 where
  pub draft : b.phase ≡ Draft
  pub number : LineNumber n
  pub withdrawn : (l : Line) × (line_at b n ≡ Withdrawn l)

-- a draft is issued where live lines claim every combination
pub record MayIssue (b : Contents) : Type 0 where
  pub draft : b.phase ≡ Draft
  pub not_last : b.version < 255
  pub whole : NoGap b.counts b.lines.states

-- an issued book is reopened
pub record MayReopen (b : Contents) : Type 0 where
  pub issued : b.phase ≡ Issued

-- a usage is priced by determinants that have the book's counts and give it a class each
pub record MayPrice (b : Contents) (d : Meanings) (u : Usage) : Type 0 where
  pub issued : b.phase ≡ Issued
  pub counts : SameCounts d b.counts
  pub amounts : AmountsInRange u
  pub classes : Classed (classes_of d u)

-- a blank book reads an acceptable sheet: the records of some version, counts, rising tariffs and rising lines that open,
-- put and add take in turn
pub record MayRead (b : Contents) (bytes : List ℕ) : Type 0 where
  pub blank : b.phase ≡ Blank
  pub held : Contents
  pub acceptable : Acceptable bytes held

-- a book that is not blank is written where the space is long enough
pub record MayWrite (b : Contents) (space : ℕ) : Type 0 where
  pub not_blank : b.phase ≡ Blank → ⊥
  pub room : length (sheet_of b) ≤ space

-- the conditions of every call
abbrev pub May : Contents → Asked → Type 0
May b (open_call counts) = MayOpen b counts
May b (put_call n terms) = MayPut b n terms
May b (add_call n l) = MayAdd b n l
May b (withdraw_call n) = MayWithdraw b n
May b (restore_call n) = MayRestore b n
May b (strike_call n) = MayStrike b n
May b issue_call = MayIssue b
May b reopen_call = MayReopen b
May b (price_call d u) = MayPrice b d u
May b (read_call bytes) = MayRead b bytes
May b (write_call space) = MayWrite b space
