-- The command that a line writes: a verb and its arguments, with no word behind them.
use Rattle.std.specs.Prelude.{ℕ, Bool, true, false, cond, List, [], ◌∷◌, Some, None, codes, Option, ◌==◌}
use Rattle.std.specs.Str.{bytes_eq}
use Rattle.script.specs.declared.commands.Command.{Command}
use Rattle.script.specs.declared.commands.Command.TheVariants.{Open, Put, Add, Withdraw, Restore, Strike, Issue, Reopen, Price, Read, Write}
use Rattle.script.specs.declared.commands.Verb.{Verb}
use Rattle.script.specs.declared.commands.Verb.TheVariants as verb
use Rattle.script.specs.Fields.{Word, then, first_by, u8_field, u16_field, counts_fields, terms_fields, line_fields, usage_fields}
use Rattle.script.specs.Pieces.{words_of}

-- the verb that a word is
abbrev pub verb_of : Word → Option Verb
verb_of w =
    cond (bytes_eq w (codes "open")) (Some verb.Open)
    (cond (bytes_eq w (codes "put")) (Some verb.Put)
    (cond (bytes_eq w (codes "add")) (Some verb.Add)
    (cond (bytes_eq w (codes "withdraw")) (Some verb.Withdraw)
    (cond (bytes_eq w (codes "restore")) (Some verb.Restore)
    (cond (bytes_eq w (codes "strike")) (Some verb.Strike)
    (cond (bytes_eq w (codes "issue")) (Some verb.Issue)
    (cond (bytes_eq w (codes "reopen")) (Some verb.Reopen)
    (cond (bytes_eq w (codes "price")) (Some verb.Price)
    (cond (bytes_eq w (codes "read")) (Some verb.Read)
    (cond (bytes_eq w (codes "write")) (Some verb.Write) None))))))))))

-- the same command with another kind of name for a file
abbrev pub with_names : {X Y : Type 0} → (X → Y) → Command X → Command Y
with_names f (Open counts) = Open counts
with_names f (Put number terms) = Put number terms
with_names f (Add number line) = Add number line
with_names f (Withdraw number) = Withdraw number
with_names f (Restore number) = Restore number
with_names f (Strike number) = Strike number
with_names f Issue = Issue
with_names f Reopen = Reopen
with_names f (Price usage) = Price usage
with_names f (Read name) = Read (f name)
with_names f (Write name) = Write (f name)

-- the command of a verb, with its arguments from the words behind it
abbrev pub command_fields : Verb → List Word → Option (Command Word × List Word)
command_fields verb.Open ws = then (counts_fields ws) λ counts ws. Some (Open counts, ws)
command_fields verb.Put ws = then (u8_field ws) λ number ws. then (terms_fields ws) λ terms ws. Some (Put number terms, ws)
command_fields verb.Add ws = then (u16_field ws) λ number ws. then (line_fields ws) λ line ws. Some (Add number line, ws)
command_fields verb.Withdraw ws = then (u16_field ws) λ number ws. Some (Withdraw number, ws)
command_fields verb.Restore ws = then (u16_field ws) λ number ws. Some (Restore number, ws)
command_fields verb.Strike ws = then (u16_field ws) λ number ws. Some (Strike number, ws)
command_fields verb.Issue ws = Some (Issue, ws)
command_fields verb.Reopen ws = Some (Reopen, ws)
command_fields verb.Price ws = then (usage_fields ws) λ usage ws. Some (Price usage, ws)
command_fields verb.Read ws = then (first_by Some ws) λ name ws. Some (Read name, ws)
command_fields verb.Write ws = then (first_by Some ws) λ name ws. Some (Write name, ws)

-- what was read, if no word is left
abbrev pub at_end : {X : Type 0} → X → List Word → Option X
at_end x [] = Some x
at_end x (w ∷ ws) = None

-- the command that a line writes
abbrev pub command_of : List ℕ → Option (Command Word)
command_of line =
    then (first_by verb_of (words_of line)) λ verb ws.
    then (command_fields verb ws) λ command ws.
    at_end command ws

-- there is no word
abbrev pub no_word : List Word → Bool
no_word [] = true
no_word (w ∷ ws) = false

-- "#" stands in front
abbrev pub is_comment : List ℕ → Bool
is_comment [] = false
is_comment (b ∷ bs) = b == 35

-- a comment, or a line with no word
abbrev pub passed_over : List ℕ → Bool
passed_over line = cond (is_comment line) true (no_word (words_of line))
