-- The calls that the steps of a script make. Until a script can name a sheet of classes, every usage is priced with one
-- class for everything, four times.
use Rattle.std.specs.Prelude.{ℕ, ◌+◌, List, [], ◌∷◌, map, Result, slice_index_or}
use Rattle.classes.specs.Determinants.{whole_meaning, meanings}
use Rattle.law.specs.Histories.{Asked, History, open_call, put_call, add_call, withdraw_call, restore_call, strike_call, issue_call, reopen_call, price_call, read_call, write_call}
use Rattle.script.specs.declared.commands.Command.{Command}
use Rattle.script.specs.declared.commands.Command.TheVariants.{Open, Put, Add, Withdraw, Restore, Strike, Issue, Reopen, Price, Read, Write}
use Rattle.script.specs.Fields.{Word}
use Rattle.script.specs.declared.scripts.Step.{Step}
use Rattle.journal.specs.declared.call.Call.{Call}
use Rattle.journal.specs.declared.call.Accepted.{Accepted}
use Rattle.journal.specs.Asked.{asked, told}
use Rattle.journal.specs.Replays.{entries}
use Rattle.sheet.specs.declared.refusal.SheetRefusal.{SheetRefusal}

-- the call of a command, where these are the bytes of the file that it reads; a sheet is written into the longest space
abbrev pub command_call : List ℕ → Command Word → Asked
command_call sheet (Open counts) = open_call counts
command_call sheet (Put n terms) = put_call n terms
command_call sheet (Add n line) = add_call n line
command_call sheet (Withdraw n) = withdraw_call n
command_call sheet (Restore n) = restore_call n
command_call sheet (Strike n) = strike_call n
command_call sheet Issue = issue_call
command_call sheet Reopen = reopen_call
command_call sheet (Price usage) = price_call (meanings whole_meaning whole_meaning whole_meaning whole_meaning) usage
command_call sheet (Read name) = read_call sheet
command_call sheet (Write name) = write_call 11207

-- a call of the program, whose determinants give everything one class
abbrev pub asked_whole : {V T L U : Type 0} → Call V T L U → Asked
asked_whole call = asked (λ _. whole_meaning) (λ _. whole_meaning) (λ _. whole_meaning) (λ _. whole_meaning) call

-- the calls of the steps from the i-th on, each with the i-th of the sheets; a sheet that is missing is empty
abbrev pub calls_from : ℕ → List (List ℕ) → List (Step Word) → List Asked
calls_from i sheets [] = []
calls_from i sheets (s ∷ rest) = command_call (slice_index_or sheets i []) s.command ∷ calls_from (i + 1) sheets rest

abbrev pub script_calls : List (List ℕ) → List (Step Word) → List Asked
script_calls sheets steps = calls_from 0 sheets steps

-- the calls of the steps and what they were answered, as a history
abbrev pub script_history : List (List ℕ) → List (Step Word) → List (Result Accepted SheetRefusal) → History
script_history sheets steps answers = entries (script_calls sheets steps) (map told answers)
