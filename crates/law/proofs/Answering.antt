-- What the answers say: of an acceptance, of a refusal, of issue, price, add and restore.
use Rattle.std.proofs.Common.{◌≡◌, ℕ, ◌+◌, ◌<◌, true, ltb, List, [], ◌∷◌, Some, None, Decides, Option, sym, refl, ap, arith}
use Rattle.std.proofs.lemmas.Bool.{false≢true, lt-ltb}
use Rattle.classes.specs.declared.refusal.Classes.{Classes}
use Rattle.classes.specs.declared.usage.Usage.{Usage}
use Rattle.classes.specs.Outcomes.{accepted}
use Rattle.lines.specs.declared.states.Line.{Line}
use Rattle.lines.specs.declared.states.LineState.TheVariants.{Withdrawn}
use Rattle.gaps.specs.Gaps.{first_gap}
use Rattle.gaps.proofs.Meaning.{no_gap, first_gap_found}
use Rattle.contents.specs.declared.contents.Contents.{Contents}
use Rattle.contents.specs.declared.contents.Phase.TheVariants.{Draft}
use Rattle.contents.specs.Contents.{in_phase, line_at}
use Rattle.contents.specs.Calls.{Refused, answered, settled, gap_with, add_refusal, restore_refusal}
use Rattle.charging.specs.declared.pricing.Price.{Price}
use Rattle.classes.specs.Determinants.{Meanings}
use Rattle.classes.proofs.Clash.{clash}
use Rattle.charging.specs.Prices.{classes_of, amounts_of, price_refusal, price_of, priced}
use Rattle.sheet.specs.Acceptable.{Acceptable}
use Rattle.sheet.specs.Reading.{read_refusal, sheet_contents}
use Rattle.std.specs.Int.Digits.{AllBelowBase}
use Rattle.book.specs.Laws.{LowestOverlap}
use Rattle.book.specs.Sound.{Sound}
use Rattle.book.proofs.Refusing.{add_overlap, restore_overlap}
use Rattle.book.proofs.FromSheets.{read_acceptable}
use Rattle.book.proofs.OneLine.{price_missing, price_line}
use Rattle.law.specs.Conditions.{May}
use Rattle.law.specs.Histories.{Asked, open_call, put_call, add_call, withdraw_call, restore_call, strike_call, issue_call, reopen_call, price_call, read_call, write_call, ReadsBytes, Told, at_version, at_price, done, refused, is_acceptance, plain_step, acceptance_of, refusal_of, told_by, answer_to}
use Rattle.law.specs.Law.{IssueAnswer, PriceAnswer}
use Rattle.law.proofs.Accepting.{may_tested}
use Rattle.law.proofs.Tests.{phase_tested}

-- what is answered where there is no refusal is an acceptance
pub acceptance_accepts : (b : Contents) (a : Asked) → is_acceptance (acceptance_of b a) ≡ true
acceptance_accepts b (open_call counts) = refl
acceptance_accepts b (put_call n terms) = refl
acceptance_accepts b (add_call n l) = refl
acceptance_accepts b (withdraw_call n) = refl
acceptance_accepts b (restore_call n) = refl
acceptance_accepts b (strike_call n) = refl
acceptance_accepts b issue_call = refl
acceptance_accepts b reopen_call = refl
acceptance_accepts b (price_call d u) = refl
acceptance_accepts b (read_call bytes) = refl
acceptance_accepts b (write_call space) = refl

-- an answer is an acceptance exactly when there is no refusal
pub told_tested : (r : Option Refused) (t : Told) → is_acceptance t ≡ true → Decides (is_acceptance (told_by r t)) (r ≡ None)
told_tested None t yes-told = (λ _. refl, λ _. yes-told)
told_tested (Some x) t yes-told = (λ h. absurd (false≢true h), λ e. clash cc)

pub accepted_exactly : (b : Contents) (a : Asked) → Sound b → ReadsBytes a → Decides (is_acceptance (answer_to b a)) (May b a)
accepted_exactly b a s bytes =
    let told = told_tested (refusal_of b a) (acceptance_of b a) (acceptance_accepts b a) in
    let may = may_tested b a s bytes in
    (λ h. may.0 (told.0 h), λ m. told.1 (may.1 m))

-- a refusal that is answered is the refusal of the call
refused_by : (r : Option Refused) (x : Refused) → told_by r done ≡ refused x → r ≡ Some x
refused_by None x e = clash cc
refused_by (Some y) x e = cc

module _ (b : Contents) (n : ℕ) (l : Line) (m : ℕ) (s : Sound b) where
  pub add_named : answer_to b (add_call n l) ≡ refused (11, m ∷ []) → LowestOverlap b l m
  add_named e = add_overlap b n l m (∣ s ∣₁) (rw (refused_by (add_refusal b n l) (11, m ∷ []) e) refl)

  pub restore_named : line_at b n ≡ Withdrawn l → answer_to b (restore_call n) ≡ refused (11, m ∷ []) → LowestOverlap b l m
  restore_named at e = restore_overlap b n l m (∣ s ∣₁) at (rw (refused_by (restore_refusal b n) (11, m ∷ []) e) refl)

-- issue in a draft below the last version: only a gap is in the way
pub issue_answered : (b : Contents) → b.phase ≡ Draft → b.version < 255 → IssueAnswer b (answer_to b issue_call)
issue_answered b draft below =
    let in_draft : in_phase Draft b ≡ true = (phase_tested Draft b).1 draft in
    let before_last : ltb b.version 255 ≡ true = lt-ltb b.version 255 below in
    rw (in_draft, before_last) (by (first_gap b.counts b.lines.states) refl)
  where
    by : (o : Option Classes) → first_gap b.counts b.lines.states ≡ o → IssueAnswer b (told_by (gap_with o) (at_version (b.version + 1)))
    by None e = let whole = no_gap b.counts b.lines.states e in record { next_version = λ _. refl; only_whole = λ _. whole; else_gap = λ not_whole. absurd (not_whole whole) }
    by (Some k) e =
        let gap = first_gap_found b.counts b.lines.states k e in
        record {
          next_version = λ whole. absurd (gap.unclaimed (whole k gap.combination));
          only_whole = λ same. clash cc;
          else_gap = λ _. record { gap = k; named = refl; first = gap };
        }

-- an accepted price call finds a price, and the price is that of one line
pub price_answered : (b : Contents) (d : Meanings) (u : Usage) → Sound b → is_acceptance (answer_to b (price_call d u)) ≡ true → PriceAnswer b d u (answer_to b (price_call d u))
price_answered b d u s h = by (price_of b (classes_of d u) (amounts_of u)) refl
  where
    free : price_refusal b d u ≡ None
    free = (told_tested (price_refusal b d u) (at_price (priced b d u)) refl).0 h

    tested : accepted (classes_of d u) ≡ answered (price_refusal b d u) (classes_of d u)
    tested = rw free refl

    by : (o : Option Price) → price_of b (classes_of d u) (amounts_of u) ≡ o → PriceAnswer b d u (answer_to b (price_call d u))
    by None e = absurd (price_missing b d u (classes_of d u) (amounts_of u) (∣ s ∣₁) tested refl (sym e))
    by (Some p) e = record {
      price = p;
      answered = rw (free, e) refl;
      one_line = price_line b d u (classes_of d u) (amounts_of u) (∣ s ∣₁) tested refl p p (sym e) refl;
    }

-- an accepted read leaves what its sheet holds
pub read_answered : (b : Contents) (bytes : List ℕ) → AllBelowBase 256 bytes → is_acceptance (answer_to b (read_call bytes)) ≡ true → Acceptable bytes (plain_step b (read_call bytes) (is_acceptance (answer_to b (read_call bytes))))
read_answered b bytes small h =
    let free = (told_tested (read_refusal b bytes) done refl).0 h in
    rw h (read_acceptable b (sheet_contents bytes) bytes small (sym (ap (λ w. settled w b (sheet_contents bytes)) free)) (ap (λ w. answered w (tt {0})) free))
