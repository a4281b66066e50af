-- The calendar (days, minutes of the day and weekdays of an instant), and the instants that a period covers.
use Rattle.std.specs.Prelude.{ℕ, ◌+◌, ◌/◌, ◌%◌, ◌^◌, Bool, ◌&&◌, ◌==◌, nat_le, nat_lt}
use Rattle.classes.specs.declared.times.Period.{Period}
use Rattle.classes.specs.declared.usage.Instant.{Instant}

-- whole days since 1 January 1970
abbrev pub day_of : Instant → ℕ
day_of i = i.0 / 1440

abbrev pub minute_of : Instant → ℕ
minute_of i = i.0 % 1440

-- 0 is Monday; 1 January 1970 was a Thursday
abbrev pub weekday_of : Instant → ℕ
weekday_of i = (day_of i + 3) % 7

abbrev pub period_class : Period → ℕ
period_class p = p.class

-- whether bit k is set
abbrev pub has_bit : ℕ → ℕ → Bool
has_bit bits k = bits / 2 ^ k % 2 == 1

-- the weekday's bit is set, and the minute lies from `from` up to, and without, `to`
abbrev pub period_covers : Period → Instant → Bool
period_covers p i = has_bit p.days (weekday_of i) && nat_le p.from (minute_of i) && nat_lt (minute_of i) p.to
