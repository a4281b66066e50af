-- The table of line numbers, and the first number at which a test passes. Numbers count from 1, and so does
-- `position_from` here: it is the library's, the number of the first state that passes, if one does.
use Rattle.std.specs.Prelude.{◌≡◌, ℕ, ◌-◌, ◌<◌, Bool, true, false, cond, List, Option, ◌==◌, slice_index_or}
use Rattle.std.specs.List.{position_from}
use Rattle.classes.specs.declared.refusal.Classes.{Classes}
use Rattle.lines.specs.declared.states.Line.{Line}
use Rattle.lines.specs.declared.states.LineState.{LineState}
use Rattle.lines.specs.declared.states.LineState.TheVariants.{Free, Live}
use Rattle.lines.specs.Lines.{claims, state_claims, state_meets}

-- what stands at a number; 0 and numbers past the table are free
abbrev pub state_at : List LineState → ℕ → LineState
state_at states n = cond (n == 0) Free (slice_index_or states (n - 1) Free)

-- the lowest live line that meets a line
abbrev pub first_overlap : List LineState → Line → Option ℕ
first_overlap states l = position_from (state_meets l) 1 states

-- the lowest live line that claims a combination
abbrev pub first_claim : List LineState → Classes → Option ℕ
first_claim states k = position_from (state_claims k) 1 states

-- what such a number means: its state passes, and no lower one does
pub record Lowest (test : LineState → Bool) (states : List LineState) (n : ℕ) : Type 0 where
  pub passes : test (state_at states n) ≡ true
  pub first : (m : ℕ) → m < n → test (state_at states m) ≡ false

-- a live line claims the combination
pub record Claimed (states : List LineState) (k : Classes) : Type 0 where
  pub number : ℕ
  pub line : Line
  pub live : state_at states number ≡ Live line
  pub claimed : claims line k ≡ true
