-- The law over runs. Whatever calls are made of a book, in whatever order, every entry of their history is lawful; and
-- the law of an entry speaks only of the plain book after what came before it.
use Rattle.std.specs.Prelude.{◌≡◌, ℕ, ◌+◌, ◌<◌, true, List, [], ◌∷◌, ◌++◌, Decides}
use Rattle.classes.specs.declared.refusal.Classes.{Classes}
use Rattle.classes.specs.declared.usage.Usage.{Usage}
use Rattle.lines.specs.declared.states.Line.{Line}
use Rattle.lines.specs.declared.states.LineState.TheVariants.{Withdrawn}
use Rattle.gaps.specs.Gaps.{NoGap, FirstGap}
use Rattle.contents.specs.declared.contents.Contents.{Contents}
use Rattle.contents.specs.declared.contents.Phase.TheVariants.{Draft}
use Rattle.contents.specs.Contents.{line_at}
use Rattle.contents.specs.Refusals.{gap_values}
use Rattle.charging.specs.declared.pricing.Price.{Price}
use Rattle.classes.specs.Determinants.{Meanings}
use Rattle.charging.specs.Prices.{classes_of, amounts_of, OneLine}
use Rattle.sheet.specs.Acceptable.{Acceptable}
use Rattle.book.specs.Laws.{LowestOverlap}
use Rattle.book.specs.Sound.{AtMostOne}
use Rattle.law.specs.Conditions.{May}
use Rattle.law.specs.Histories.{Asked, add_call, restore_call, issue_call, price_call, read_call, ReadsBytes, Told, at_version, at_price, refused, is_acceptance, answer_to, Entry, History, after_entry, plain_book, Answered, history_of}

-- the answer is a refusal that names the first unclaimed combination
pub record GapNamed (b : Contents) (t : Told) : Type 0 where
  pub gap : Classes
  pub named : t ≡ refused (12, gap_values gap)
  pub first : FirstGap b.counts b.lines.states gap

-- the answer is the next version exactly when live lines claim every combination, and else names the first gap
pub record IssueAnswer (b : Contents) (t : Told) : Type 0 where
  pub next_version : NoGap b.counts b.lines.states → t ≡ at_version (b.version + 1)
  pub only_whole : t ≡ at_version (b.version + 1) → NoGap b.counts b.lines.states
  pub else_gap : (NoGap b.counts b.lines.states → ⊥) → GapNamed b t

-- the answer is the price by the one live line that claims the four classes, and by its tariff
pub record PriceAnswer (b : Contents) (d : Meanings) (u : Usage) (t : Told) : Type 0 where
  pub price : Price
  pub answered : t ≡ at_price price
  pub one_line : OneLine b (classes_of d u) (amounts_of u) price

-- the law of one entry, where b is the plain book after what came before it
pub record LawfulEntry (b : Contents) (e : Entry) : Type 0 where
  -- the call is accepted exactly when none of its refusals applies; what is read are bytes
  pub accepted : ReadsBytes e.asked → Decides (is_acceptance e.told) (May b e.asked)
  -- at most one live line claims any combination
  pub at_most_one : AtMostOne b
  -- a draft below version 255 is issued exactly when it has no gap
  pub issuing : e.asked ≡ issue_call → b.phase ≡ Draft → b.version < 255 → IssueAnswer b e.told
  -- a price that is answered is that of the one line
  pub pricing : (d : Meanings) (u : Usage) → e.asked ≡ price_call d u → is_acceptance e.told ≡ true → PriceAnswer b d u e.told
  -- a sheet that is read leaves its version, counts, tariffs and live lines, as open, put and add take them in turn
  pub reading : (bytes : List ℕ) → e.asked ≡ read_call bytes → ReadsBytes e.asked → is_acceptance e.told ≡ true → Acceptable bytes (after_entry b e)
  -- an overlap that refuses an add or a restore is with the lowest live line in the way
  pub adding : (n : ℕ) (l : Line) (m : ℕ) → e.asked ≡ add_call n l → e.told ≡ refused (11, m ∷ []) → LowestOverlap b l m
  pub restoring : (n : ℕ) (l : Line) (m : ℕ) → e.asked ≡ restore_call n → line_at b n ≡ Withdrawn l → e.told ≡ refused (11, m ∷ []) → LowestOverlap b l m
  -- every answer, with the number and values of a refusal, is the one that the call's definitions give
  pub answer : e.told ≡ answer_to b e.asked

-- every entry is lawful, for every way to cut the history into what came before, the entry, and what came after
abbrev pub Lawful : History → Type 0
Lawful h = (before : History) (e : Entry) (after : History) → h ≡ before ++ (e ∷ after) → LawfulEntry (plain_book before) e

-- whatever calls are made, in whatever order, their history is lawful
abbrev pub EveryRunIsLawful : Type 0
EveryRunIsLawful = (calls : List Asked) → Lawful (history_of calls)

-- and so is every history in which each answer is that of the plain book as it then stands
abbrev pub AnsweredIsLawful : Type 0
AnsweredIsLawful = (h : History) → Answered h → Lawful h
