-- What the outcome of a call tells is what the book answers.
use Rattle.std.proofs.Common.{◌≡◌, ℕ, ◌<◌, List, length, get_or, Some, None, Option, refl, ap, ◌∙◌}
use Rattle.std.proofs.lemmas.List.Elements.{All-from_get_or, recursion_from_All}
use Rattle.std.specs.Int.Digits.{AllBelowBase}
use Rattle.classes.specs.Outcomes.{Outcome, accepted, refusal}
use Rattle.contents.specs.declared.contents.Contents.{Contents}
use Rattle.contents.specs.Calls.{Refused, answered, settled}
use Rattle.sheet.specs.Refusals.{left_by}
use Rattle.law.specs.Histories.{Asked, Told, told_by, refused, refusal_of, acceptance_of, after_call, ReadsBytes}
use Rattle.journal.specs.Asked.{OneStep}

-- what the outcome of a call tells, by what its value tells
abbrev pub told_of : {A : Type 0} → (A → Told) → Outcome A → Told
told_of value (accepted x) = value x
told_of value (refusal r) = refused r

pub told_answered : {A : Type 0} (value : A → Told) (r : Option Refused) (x : A) → told_of value (answered r x) ≡ told_by r (value x)
told_answered value (Some r) x = refl
told_answered value None x = refl

-- a call that answers its outcome, and leaves what its definition says, takes one step
pub step_by : {A : Type 0} (value : A → Told) (x : A) {o : Outcome A} {b : Contents} {a : Asked} {t : Told} {after : Contents} → value x ≡ acceptance_of b a → o ≡ answered (refusal_of b a) x → t ≡ told_of value o → after ≡ settled (refusal_of b a) b (after_call b a) → ReadsBytes a → OneStep b a t after
step_by value x {o} {b} {a} accepts answers tells left small = record {
  answer = tells ∙ ap (told_of value) answers ∙ told_answered value (refusal_of b a) x ∙ ap (told_by (refusal_of b a)) accepts;
  contents = left;
  bytes = small;
}

-- a call that is accepted
pub accepted_step : {A : Type 0} (value : A → Told) (x y : A) {b : Contents} {a : Asked} {after : Contents} → value x ≡ acceptance_of b a → accepted y ≡ answered (refusal_of b a) x → after ≡ settled (refusal_of b a) b (after_call b a) → ReadsBytes a → OneStep b a (value y) after
accepted_step value x y accepts answers left small = step_by value x accepts answers refl left small

-- a call that is refused
pub refused_step : {A : Type 0} (value : A → Told) (x : A) (n : Refused) {b : Contents} {a : Asked} {after : Contents} → value x ≡ acceptance_of b a → refusal n ≡ answered (refusal_of b a) x → after ≡ settled (refusal_of b a) b (after_call b a) → ReadsBytes a → OneStep b a (refused n) after
refused_step value x n accepts answers left small = step_by value x accepts answers refl left small

-- a call that changes nothing leaves what it would leave
pub unchanged : {A : Type 0} (r : Option Refused) (x : A) → x ≡ left_by r x x
unchanged (Some r) x = refl
unchanged None x = refl

-- numbers that are bytes at each place are bytes
pub small : (bytes : List ℕ) → ((i : ℕ) → i < length bytes → get_or bytes i 0 < 256) → AllBelowBase 256 bytes
small bytes each = recursion_from_All (λ x. x < 256) bytes (All-from_get_or (λ x. x < 256) bytes 0 each)
