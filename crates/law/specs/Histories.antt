-- Histories: the calls that were made of a book, and what each was answered. A plain book follows a history: it is fed
-- each call's own arguments and whether the call was accepted, and takes nothing else from the answers.
use Rattle.std.specs.Prelude.{◌≡◌, ℕ, ◌+◌, Bool, true, false, List, [], ◌∷◌, Some, None, Option}
use Rattle.std.specs.Int.Digits.{AllBelowBase}
use Rattle.classes.specs.declared.usage.Usage.{Usage}
use Rattle.tariff.specs.declared.terms.Terms.{Terms}
use Rattle.tariff.specs.Ranges.{checked}
use Rattle.lines.specs.declared.sets.Counts.{Counts}
use Rattle.lines.specs.declared.states.Line.{Line}
use Rattle.contents.specs.declared.contents.Contents.{Contents}
use Rattle.contents.specs.Contents.{new_contents}
use Rattle.contents.specs.Calls.{Refused, open_refusal, opened, put_refusal, stored, add_refusal, added, withdraw_refusal, withdrawn, restore_refusal, restored, strike_refusal, struck, issue_refusal, issued, reopen_refusal, reopened}
use Rattle.sheet.specs.Reading.{read_refusal, sheet_contents}
use Rattle.sheet.specs.Writing.{write_refusal, sheet_of}
use Rattle.charging.specs.declared.pricing.Price.{Price}
use Rattle.classes.specs.Determinants.{Meanings}
use Rattle.charging.specs.Prices.{price_refusal, priced}

-- a call with its own arguments; a price call is held by what its four determinants mean
pub data Asked : Type 0 where
  open_call : Counts → Asked
  put_call : ℕ → Terms → Asked
  add_call : ℕ → Line → Asked
  withdraw_call : ℕ → Asked
  restore_call : ℕ → Asked
  strike_call : ℕ → Asked
  issue_call : Asked
  reopen_call : Asked
  price_call : Meanings → Usage → Asked
  -- the bytes of a sheet
  read_call : List ℕ → Asked
  -- how long the space is
  write_call : ℕ → Asked

-- a sheet that is read is a list of bytes, each below 256
abbrev pub ReadsBytes : Asked → Type 0
ReadsBytes (open_call counts) = Unit {0}
ReadsBytes (put_call n terms) = Unit {0}
ReadsBytes (add_call n l) = Unit {0}
ReadsBytes (withdraw_call n) = Unit {0}
ReadsBytes (restore_call n) = Unit {0}
ReadsBytes (strike_call n) = Unit {0}
ReadsBytes issue_call = Unit {0}
ReadsBytes reopen_call = Unit {0}
ReadsBytes (price_call d u) = Unit {0}
ReadsBytes (read_call bytes) = AllBelowBase 256 bytes
ReadsBytes (write_call space) = Unit {0}

-- what a call answered: that it is done, the version issued, the price, the bytes of the sheet, or a refusal by its
-- number and values
pub data Told : Type 0 where
  done : Told
  at_version : ℕ → Told
  at_price : Price → Told
  wrote : List ℕ → Told
  refused : Refused → Told

-- whether an answer is an acceptance
abbrev pub is_acceptance : Told → Bool
is_acceptance done = true
is_acceptance (at_version v) = true
is_acceptance (at_price p) = true
is_acceptance (wrote bytes) = true
is_acceptance (refused r) = false

-- the refusal of a call, if there is one
abbrev pub refusal_of : Contents → Asked → Option Refused
refusal_of b (open_call counts) = open_refusal b counts
refusal_of b (put_call n terms) = put_refusal b n terms
refusal_of b (add_call n l) = add_refusal b n l
refusal_of b (withdraw_call n) = withdraw_refusal b n
refusal_of b (restore_call n) = restore_refusal b n
refusal_of b (strike_call n) = strike_refusal b n
refusal_of b issue_call = issue_refusal b
refusal_of b reopen_call = reopen_refusal b
refusal_of b (price_call d u) = price_refusal b d u
refusal_of b (read_call bytes) = read_refusal b bytes
refusal_of b (write_call space) = write_refusal b space

-- what a call answers where it has no refusal
abbrev pub acceptance_of : Contents → Asked → Told
acceptance_of b (open_call counts) = done
acceptance_of b (put_call n terms) = done
acceptance_of b (add_call n l) = done
acceptance_of b (withdraw_call n) = done
acceptance_of b (restore_call n) = done
acceptance_of b (strike_call n) = done
acceptance_of b issue_call = at_version (b.version + 1)
acceptance_of b reopen_call = done
acceptance_of b (price_call d u) = at_price (priced b d u)
acceptance_of b (read_call bytes) = done
acceptance_of b (write_call space) = wrote (sheet_of b)

-- a call answers its refusal, or what it answers without one
abbrev pub told_by : Option Refused → Told → Told
told_by (Some r) t = refused r
told_by None t = t

-- the one answer that a book gives to a call
abbrev pub answer_to : Contents → Asked → Told
answer_to b a = told_by (refusal_of b a) (acceptance_of b a)

-- the plain book after a call that was accepted
abbrev pub after_call : Contents → Asked → Contents
after_call b (open_call counts) = opened counts b
after_call b (put_call n terms) = stored n (checked terms) b
after_call b (add_call n l) = added n l b
after_call b (withdraw_call n) = withdrawn n b
after_call b (restore_call n) = restored n b
after_call b (strike_call n) = struck n b
after_call b issue_call = issued b
after_call b reopen_call = reopened b
after_call b (price_call d u) = b
after_call b (read_call bytes) = sheet_contents bytes
after_call b (write_call space) = b

-- the plain book after a call, by whether it was accepted: a refused call leaves it alone
abbrev pub plain_step : Contents → Asked → Bool → Contents
plain_step b a true = after_call b a
plain_step b a false = b

-- a call and its answer
pub record Entry : Type 0 where
  pub asked : Asked
  pub told : Told

-- the entries in the order in which the calls were made
abbrev pub History : Type 0
History = List Entry

-- the plain book after an entry
abbrev pub after_entry : Contents → Entry → Contents
after_entry b e = plain_step b e.asked (is_acceptance e.told)

-- the plain book after a history, from a book on
abbrev pub plain_book_from : Contents → History → Contents
plain_book_from b [] = b
plain_book_from b (e ∷ h) = plain_book_from (after_entry b e) h

-- the plain book after a history begins as a new book
abbrev pub plain_book : History → Contents
plain_book h = plain_book_from new_contents h

-- every answer is that of the plain book as it then stands, from a book on
abbrev pub AnsweredFrom : Contents → History → Type 0
AnsweredFrom b [] = Unit {0}
AnsweredFrom b (e ∷ h) = (e.told ≡ answer_to b e.asked) × AnsweredFrom (after_entry b e) h

-- the same from a new book on
abbrev pub Answered : History → Type 0
Answered h = AnsweredFrom new_contents h

-- a call, answered by the plain book
abbrev pub entry_of : Contents → Asked → Entry
entry_of b a = record { asked = a; told = answer_to b a }

-- the history of some calls, each answered by the plain book as it then stands, from a book on
abbrev pub history_from : Contents → List Asked → History
history_from b [] = []
history_from b (a ∷ rest) = entry_of b a ∷ history_from (after_entry b (entry_of b a)) rest

-- the same from a new book on
abbrev pub history_of : List Asked → History
history_of calls = history_from new_contents calls
