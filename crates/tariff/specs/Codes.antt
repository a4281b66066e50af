-- The codes of a tariff's choices: 1, 2 and 3, and no others.
use Rattle.std.specs.Prelude.{ℕ, cond, Some, None, Option, ◌==◌}
use Rattle.tariff.specs.declared.codes.Measure.{Measure}
use Rattle.tariff.specs.declared.codes.Measure.TheVariants.{Metres, Minutes, Events}
use Rattle.tariff.specs.declared.codes.OutOfRange.{OutOfRange}
use Rattle.tariff.specs.declared.codes.Rounding.{Rounding}
use Rattle.tariff.specs.declared.codes.Rounding.TheVariants.{Up, Down, Nearest}

abbrev pub measure_code : Measure → ℕ
measure_code Metres = 1
measure_code Minutes = 2
measure_code Events = 3

abbrev pub rounding_code : Rounding → ℕ
rounding_code Up = 1
rounding_code Down = 2
rounding_code Nearest = 3

-- the first, second or third of three choices, by its code
abbrev pub choice_of : {A : Type 0} → A → A → A → ℕ → Option A
choice_of first second third n = cond (n == 1) (Some first) (cond (n == 2) (Some second) (cond (n == 3) (Some third) None))

abbrev pub measure_coded : ℕ → Option Measure
measure_coded n = choice_of Metres Minutes Events n

abbrev pub rounding_coded : ℕ → Option Rounding
rounding_coded n = choice_of Up Down Nearest n

-- what is answered where a number is out of range
abbrev pub out_of_range : OutOfRange
out_of_range = record {}
