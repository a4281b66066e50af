-- What a script says: the commands of its lines, in order, or the first line that is neither passed over nor a command.
-- Lines count from 1.
use Rattle.std.specs.Prelude.{◌≡◌, ℕ, ◌+◌, ◌-◌, ◌<◌, ◌≤◌, Bool, true, false, cond, ◌||◌, List, [], ◌∷◌, ◌++◌, map, length, is_some, Some, None, Ok, Err, vec_items, Option, Result, Vec, slice_index_or}
use Rattle.std.specs.Borrow.{Bor}
use Rattle.script.specs.declared.commands.Command.{Command}
use Rattle.script.specs.declared.scripts.ScriptError.{ScriptError}
use Rattle.script.specs.declared.scripts.ScriptError.TheVariants.{Refused, NoMemory}
use Rattle.script.specs.declared.scripts.Step.{Step}
use Rattle.script.specs.Commands.{with_names, command_of, passed_over}
use Rattle.script.specs.Fields.{Word}
use Rattle.script.specs.Pieces.{pieces}

-- a line that is no reason to refuse the script
abbrev pub is_sound : List ℕ → Bool
is_sound line = passed_over line || is_some (command_of line)

-- the first line that is not sound, where the lines count from n
abbrev pub first_unsound : ℕ → List (List ℕ) → Option ℕ
first_unsound n [] = None
first_unsound n (l ∷ ls) = cond (is_sound l) (first_unsound (n + 1) ls) (Some n)

-- the step of a command
abbrev pub step_of : ℕ → Option (Command Word) → List (Step Word)
step_of n None = []
step_of n (Some c) = record { line = n; command = c } ∷ []

-- the step of a line, unless it is passed over
abbrev pub line_steps : ℕ → List ℕ → List (Step Word)
line_steps n line = cond (passed_over line) [] (step_of n (command_of line))

-- the steps of the lines, which count from n
abbrev pub steps_from : ℕ → List (List ℕ) → List (Step Word)
steps_from n [] = []
steps_from n (l ∷ ls) = line_steps n l ++ steps_from (n + 1) ls

-- the steps, unless a line is refused
abbrev pub unless_refused : Option ℕ → List (Step Word) → Result (List (Step Word)) ℕ
unless_refused None steps = Ok steps
unless_refused (Some n) steps = Err n

-- the steps of a script, or the line at which it is refused
abbrev pub script_of : List ℕ → Result (List (Step Word)) ℕ
script_of text = unless_refused (first_unsound 1 (pieces 10 text)) (steps_from 1 (pieces 10 text))

-- a step with the bytes of a file's name in place of a reference to them
abbrev pub plain_step : Step (Bor Word) → Step Word
plain_step s = record { line = s.line; command = with_names (λ x. x.now) s.command }

-- an error names this line, which is not sound, or says that memory failed
abbrev pub Rejects : ℕ → List ℕ → ScriptError → Type 0
Rejects n line (Refused k) = (is_sound line ≡ false) × (k ≡ n)
Rejects n line NoMemory = Unit {0}

-- the step of a sound line was put behind others
abbrev pub Added : List (Step (Bor Word)) → ℕ → List ℕ → List (Step (Bor Word)) → Result (Unit {0}) ScriptError → Type 0
Added before n line after (Ok u) = (is_sound line ≡ true) × (map plain_step after ≡ map plain_step before ++ line_steps n line)
Added before n line after (Err e) = Rejects n line e

-- an error names the line at which the script is refused, or says that memory failed
abbrev pub Failed : ScriptError → Result (List (Step Word)) ℕ → Type 0
Failed (Refused n) script = Err n ≡ script
Failed NoMemory script = Unit {0}

-- an answer is that of the script, unless memory failed
abbrev pub Told : {Z : Type 0} → Result (Vec (Step (Bor Word)) Z) ScriptError → Result (List (Step Word)) ℕ → Type 0
Told (Ok v) script = Ok (map plain_step (vec_items v)) ≡ script
Told (Err e) script = Failed e script

-- what it means that a script is refused at a line: the line is not sound, and every line before it is
pub record FirstUnsound (lines : List (List ℕ)) (n : ℕ) : Type 0 where
  pub low : 1 ≤ n
  pub within : n ≤ length lines
  pub here : is_sound (slice_index_or lines (n - 1) []) ≡ false
  pub before : (m : ℕ) → m + 1 < n → is_sound (slice_index_or lines m []) ≡ true

-- what an error means for the lines
abbrev pub ErrorMeaning : ScriptError → List (List ℕ) → Type 0
ErrorMeaning (Refused n) lines = FirstUnsound lines n
ErrorMeaning NoMemory lines = Unit {0}

-- what an answer means for the lines: with steps, every line is sound
abbrev pub AnswerMeaning : {X : Type 0} → Result X ScriptError → List (List ℕ) → Type 0
AnswerMeaning (Ok x) lines = (k : ℕ) → k < length lines → is_sound (slice_index_or lines k []) ≡ true
AnswerMeaning (Err e) lines = ErrorMeaning e lines
