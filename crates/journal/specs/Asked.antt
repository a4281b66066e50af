-- A call and an answer of the program, as those of a history: a price call by what its determinants mean, a refusal by
-- its number and values.
use Rattle.std.specs.Prelude.{◌≡◌, Result, Ok, Err, vec_items}
use Rattle.classes.specs.Determinants.{Meaning, meanings_of}
use Rattle.contents.specs.declared.contents.Contents.{Contents}
use Rattle.contents.specs.Calls.{settled}
use Rattle.sheet.specs.declared.refusal.SheetRefusal.{SheetRefusal}
use Rattle.sheet.specs.Refusals.{numbered}
use Rattle.law.specs.Histories.{Asked, open_call, put_call, add_call, withdraw_call, restore_call, strike_call, issue_call, reopen_call, price_call, read_call, write_call, ReadsBytes, Told, done, at_version, at_price, wrote, refused, refusal_of, answer_to, after_call}
use Rattle.journal.specs.declared.call.Accepted.{Accepted}
use Rattle.journal.specs.declared.call.Accepted.TheVariants.{Done, Version, Price as Priced, Wrote}
use Rattle.journal.specs.declared.call.Call.{Call}
use Rattle.journal.specs.declared.call.Call.TheVariants.{Open, Put, Add, Withdraw, Restore, Strike, Issue, Reopen, Price, Read, Write}

-- the call that is made, where v, t, l and u are what the determinants mean
abbrev pub asked : {V T L U : Type 0} → (V → Meaning) → (T → Meaning) → (L → Meaning) → (U → Meaning) → Call V T L U → Asked
asked v t l u (Open counts) = open_call counts
asked v t l u (Put n terms) = put_call n terms
asked v t l u (Add n line) = add_call n line
asked v t l u (Withdraw n) = withdraw_call n
asked v t l u (Restore n) = restore_call n
asked v t l u (Strike n) = strike_call n
asked v t l u Issue = issue_call
asked v t l u Reopen = reopen_call
asked v t l u (Price determinants usage) = price_call (meanings_of v t l u determinants) usage
asked v t l u (Read bytes) = read_call bytes.now
asked v t l u (Write space) = write_call space

-- what is told of a call that is accepted
abbrev pub told_value : Accepted → Told
told_value Done = done
told_value (Version v) = at_version v
told_value (Priced p) = at_price p
told_value (Wrote bytes) = wrote (vec_items bytes)

-- what an answer tells
abbrev pub told : Result Accepted SheetRefusal → Told
told (Ok x) = told_value x
told (Err r) = refused (numbered r)

-- the answer and the contents after a call are those that its definitions give; what is read are bytes
pub record OneStep (before : Contents) (a : Asked) (t : Told) (after : Contents) : Type 0 where
  pub answer : t ≡ answer_to before a
  pub contents : after ≡ settled (refusal_of before a) before (after_call before a)
  pub bytes : ReadsBytes a
