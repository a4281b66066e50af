-- Reading on, one record after another.
use Rattle.std.proofs.Common.{◌≡◌, ℕ, zero, suc, ◌+◌, ◌-◌, ◌<◌, ◌≤◌, leb, List, [], ◌∷◌, length, get_or, drop, Some, None, Option, sym, refl, ap, ◌∙◌, arith}
use Rattle.std.proofs.lemmas.List.{length-drop}
use Rattle.std.proofs.lemmas.Bool.{leb-true}
use Rattle.classes.specs.Outcomes.{refusal}
use Rattle.classes.proofs.Clash.{clash}
use Rattle.contents.specs.Calls.{Refused}
use Rattle.contents.proofs.Refused.{passed}
use Rattle.sheet.specs.declared.reading.Draft.{Draft}
use Rattle.sheet.specs.declared.records.Kind.{Kind}
use Rattle.sheet.specs.Records.{kind_coded, body_length}
use Rattle.sheet.specs.Reading.{not_ended, due, kind_refusal, kind_taken, kind_length, record_refusal, placed_or, finished, read_on}
use Rattle.sheet.specs.Refusals.{placed}

-- the bytes of a body are passed over
pub read_past : (d : Draft) (place n : ℕ) (bytes : List ℕ) → n ≤ length bytes → read_on d place n bytes ≡ read_on d (place + n) 0 (drop n bytes)
unfolding read_on
read_past d place zero bytes fits = ap (λ p. read_on d p 0 bytes) (omega arith)
read_past d place (suc n) [] fits = absurd (omega arith)
read_past d place (suc n) (b ∷ bytes) fits =
    read_past d (place + 1) n bytes (omega arith) ∙ ap (λ p. read_on d p 0 (drop n bytes)) (omega arith)

-- a record that is taken has its whole body
kind_whole : (d : Draft) (kind : Option Kind) (rest : List ℕ) → kind_refusal d kind rest ≡ None → kind_length kind ≤ length rest
kind_whole d None rest e = clash cc
kind_whole d (Some k) rest e =
    let is_due = passed (due d.stage k) (19, []) _ e in
    let whole = passed (leb (body_length k) (length rest)) (17, []) _ is_due.1 in
    leb-true (body_length k) (length rest) whole.0

pub taken_whole : (d : Draft) (code : ℕ) (rest : List ℕ) → record_refusal d code rest ≡ None → kind_length (kind_coded code) ≤ length rest
taken_whole d code rest e = kind_whole d (kind_coded code) rest (passed (not_ended d.stage) (19, []) _ e).1

-- the next record is refused, and so is the sheet
pub next_refused : (d : Draft) (place : ℕ) (bytes rest : List ℕ) (y : Refused) → 0 < length bytes → rest ≡ drop 1 bytes → record_refusal d (get_or bytes 0 0) rest ≡ Some y → read_on d place 0 bytes ≡ refusal (placed place y)
unfolding read_on
next_refused d place [] rest y some here why = absurd (omega arith)
next_refused d place (code ∷ bytes) rest y some here why =
    ap (λ w. placed_or place w (read_on (kind_taken d (kind_coded code) bytes) (place + 1) (kind_length (kind_coded code)) bytes)) (ap (record_refusal d code) (sym here) ∙ why)

-- the next record is taken, and the bytes behind it are read on
after_next : (d : Draft) (place : ℕ) (bytes rest : List ℕ) → 0 < length bytes → rest ≡ drop 1 bytes → record_refusal d (get_or bytes 0 0) rest ≡ None → read_on d place 0 bytes ≡ read_on (kind_taken d (kind_coded (get_or bytes 0 0)) rest) (place + (1 + kind_length (kind_coded (get_or bytes 0 0)))) 0 (drop (kind_length (kind_coded (get_or bytes 0 0))) rest)
unfolding read_on
after_next d place [] rest some here none = absurd (omega arith)
after_next d place (code ∷ bytes) rest some here none =
    let n = kind_length (kind_coded code) in
    let next = kind_taken d (kind_coded code) rest in
    ap (λ bs. placed_or place (record_refusal d code bs) (read_on (kind_taken d (kind_coded code) bs) (place + 1) n bs)) (sym here)
    ∙ ap (λ w. placed_or place w (read_on next (place + 1) n rest)) none
    ∙ read_past next (place + 1) n rest (taken_whole d code rest none)
    ∙ ap (λ p. read_on next p 0 (drop n rest)) (omega arith)

-- the same, by how many bytes are left before the end of the input
pub record NextTaken (d next : Draft) (end : ℕ) (bytes left : List ℕ) : Type 0 where
  pub fewer : length left < length bytes
  pub same : read_on next (end - length left) 0 left ≡ read_on d (end - length bytes) 0 bytes

pub next_taken : (d next : Draft) (end : ℕ) (bytes rest left : List ℕ) → 0 < length bytes → length bytes ≤ end → rest ≡ drop 1 bytes → record_refusal d (get_or bytes 0 0) rest ≡ None → next ≡ kind_taken d (kind_coded (get_or bytes 0 0)) rest → left ≡ drop (kind_length (kind_coded (get_or bytes 0 0))) rest → NextTaken d next end bytes left
next_taken d next end bytes rest left some within here none taken behind =
    let n = kind_length (kind_coded (get_or bytes 0 0)) in
    let whole : n ≤ length rest = taken_whole d (get_or bytes 0 0) rest none in
    let size : length left ≡ length rest - n = ap length behind ∙ length-drop n rest in
    let less : length rest ≡ length bytes - 1 = ap length here ∙ length-drop 1 bytes in
    let place : end - length left ≡ end - length bytes + (1 + n) = omega arith in
    record {
      fewer = omega arith;
      same = (λ i. read_on (taken i) (place i) 0 (behind i)) ∙ sym (after_next d (end - length bytes) bytes rest some here none);
    }

-- at the end of the input
pub read_end : (d : Draft) (place : ℕ) (bytes : List ℕ) → length bytes ≡ 0 → read_on d place 0 bytes ≡ finished d place
unfolding read_on
read_end d place [] none = refl
read_end d place (b ∷ bytes) none = absurd (omega arith)
