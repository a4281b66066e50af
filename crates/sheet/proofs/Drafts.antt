-- A record's body stands for a call: it is refused, or taken, as the call is.
use Rattle.std.proofs.Common.{◌≡◌, ℕ, ◌≤◌, true, List, [], ◌∷◌, length, take, Some, None, Ok, Err, Option, Result, sym, ap, ◌∙◌}
use Rattle.std.proofs.lemmas.Bool.{le-leb}
use Rattle.classes.specs.Outcomes.{accepted, refusal}
use Rattle.contents.specs.declared.contents.Contents.{Contents}
use Rattle.contents.specs.Calls.{Refused, unless, answered, settled}
use Rattle.contents.proofs.Refused.{answered_refused, answered_accepted}
use Rattle.sheet.specs.declared.reading.Draft.{Draft}
use Rattle.sheet.specs.declared.refusal.RecordFault.{RecordFault}
use Rattle.sheet.specs.declared.records.Kind.{Kind}
use Rattle.sheet.specs.Records.{kind_coded, body_length}
use Rattle.sheet.specs.Reading.{above, fields_refusal, not_ended, due, due_refusal, due_taken, kind_refusal, kind_taken, kind_length, record_refusal, body_refusal, body_taken}
use Rattle.sheet.specs.Refusals.{fault_numbered, fault_outcome, left_by}

abbrev pub with_contents : Contents → Draft → Draft
with_contents b d = record { contents = b; stage = d.stage; last_tariff = d.last_tariff; last_line = d.last_line }

-- what is answered, and what becomes of the draft
pub record Answers {A : Type 0} (r : Result A RecordFault) (x : A) (left d taken : Draft) (why : Option Refused) : Type 0 where
  pub answer : fault_outcome r ≡ answered why x
  pub after : left ≡ left_by why d taken

-- a record with a number that is above the one before it: it stands for a call with the number n and the fields x, which
-- are m and y in the words of its body
module _ {X : Type 0} (d : Draft) (last : Option ℕ) (call : ℕ → X → Option Refused) (changed : ℕ → X → Contents) (moved : Contents → ℕ → Draft) (m n : ℕ) (x y : X) (number : n ≡ m) (fields : x ≡ y) (higher : above last n ≡ true) where
  tests : unless (above last m) (19, []) (fields_refusal (call m y)) ≡ fields_refusal (call n x)
  tests = sym ((λ i. unless (above last (number i)) (19, []) (fields_refusal (call (number i) (fields i))))) ∙ ap (λ b. unless b (19, []) (fields_refusal (call n x))) higher

  pub numbered-refused : (r : Refused) (after : Contents) (result : Result (Unit {0}) RecordFault) (fault : RecordFault) → refusal r ≡ answered (call n x) (tt {0}) → after ≡ settled (call n x) d.contents (changed n x) → result ≡ Err fault → fault_numbered fault ≡ (20, r.0 ∷ []) → Answers result (tt {0}) (with_contents after d) d (moved (changed m y) m) (unless (above last m) (19, []) (fields_refusal (call m y)))
  numbered-refused r after result fault refused left err code =
      let why : call n x ≡ Some r = answered_refused (call n x) (tt {0}) r (sym refused) in
      let whole : unless (above last m) (19, []) (fields_refusal (call m y)) ≡ Some (20, r.0 ∷ []) = tests ∙ ap fields_refusal why in
      record {
        answer = ap fault_outcome err ∙ ap refusal code ∙ sym (ap (λ w. answered w (tt {0})) whole);
        after = ap (λ b. with_contents b d) (left ∙ ap (λ w. settled w d.contents (changed n x)) why) ∙ sym (ap (λ w. left_by w d (moved (changed m y) m)) whole);
      }

  pub numbered-accepted : (after : Contents) → accepted (tt {0}) ≡ answered (call n x) (tt {0}) → after ≡ settled (call n x) d.contents (changed n x) → Answers (Ok (tt {0})) (tt {0}) (moved after n) d (moved (changed m y) m) (unless (above last m) (19, []) (fields_refusal (call m y)))
  numbered-accepted after taken left =
      let none : call n x ≡ None = (answered_accepted (call n x) (tt {0}) (tt {0}) (sym taken)).0 in
      let whole : unless (above last m) (19, []) (fields_refusal (call m y)) ≡ None = tests ∙ ap fields_refusal none in
      let made : after ≡ changed n x = left ∙ ap (λ w. settled w d.contents (changed n x)) none in
      record {
        answer = sym (ap (λ w. answered w (tt {0})) whole);
        after = (λ i. moved (made i) n) ∙ (λ i. moved (changed (number i) (fields i)) (number i)) ∙ sym (ap (λ w. left_by w d (moved (changed m y) m)) whole);
      }

-- a record of a kind that is due, with its whole body there, is what its body is
pub record Whole (d : Draft) (kind : Kind) (rest body : List ℕ) : Type 0 where
  pub why : due_refusal d kind rest ≡ body_refusal d kind body
  pub taken : due_taken d kind rest ≡ body_taken d kind body

pub whole : (d : Draft) (kind : Kind) (rest body : List ℕ) → body_length kind ≤ length rest → body ≡ take (body_length kind) rest → Whole d kind rest body
whole d kind rest body fits cut = record {
  why = ap (λ b. unless b (17, []) (body_refusal d kind (take (body_length kind) rest))) (le-leb (body_length kind) (length rest) fits) ∙ ap (body_refusal d kind) (sym cut);
  taken = ap (body_taken d kind) (sym cut);
}

-- so what its body is answered and leaves is what the record is answered and leaves
module _ (d after : Draft) (kind : Kind) (rest body : List ℕ) (fits : body_length kind ≤ length rest) (cut : body ≡ take (body_length kind) rest) where
  pub body-refused : (r : Refused) → refusal r ≡ answered (body_refusal d kind body) (tt {0}) → due_refusal d kind rest ≡ Some r
  body-refused r refused = (whole d kind rest body fits cut).why ∙ answered_refused (body_refusal d kind body) (tt {0}) r (sym refused)

  pub body-accepted : accepted (tt {0}) ≡ answered (body_refusal d kind body) (tt {0}) → due_refusal d kind rest ≡ None
  body-accepted taken = (whole d kind rest body fits cut).why ∙ (answered_accepted (body_refusal d kind body) (tt {0}) (tt {0}) (sym taken)).0

  pub body-left : after ≡ left_by (body_refusal d kind body) d (body_taken d kind body) → after ≡ left_by (due_refusal d kind rest) d (due_taken d kind rest)
  body-left left =
      let w = whole d kind rest body fits cut in
      left ∙ ap (λ x. left_by x d (body_taken d kind body)) (sym w.why) ∙ ap (left_by (due_refusal d kind rest) d) (sym w.taken)

-- a record by its kind byte, where that kind is due
pub record Coded (d : Draft) (code : ℕ) (rest : List ℕ) (kind : Kind) : Type 0 where
  pub why : record_refusal d code rest ≡ due_refusal d kind rest
  pub taken : kind_taken d (kind_coded code) rest ≡ due_taken d kind rest
  pub size : kind_length (kind_coded code) ≡ body_length kind

pub coded : (d : Draft) (code : ℕ) (rest : List ℕ) (kind : Kind) → not_ended d.stage ≡ true → kind_coded code ≡ Some kind → due d.stage kind ≡ true → Coded d code rest kind
coded d code rest kind going same is_due = record {
  why =
      ap (λ b. unless b (19, []) (kind_refusal d (kind_coded code) rest)) going
      ∙ ap (λ k. kind_refusal d k rest) same
      ∙ ap (λ b. unless b (19, []) (due_refusal d kind rest)) is_due;
  taken = ap (λ k. kind_taken d k rest) same;
  size = ap kind_length same;
}
