-- What holds of a new book, and is kept by open, put and add, holds of every book that is read.
use Rattle.std.proofs.Common.{◌≡◌, ℕ, zero, suc, ◌+◌, Bool, true, false, leb, List, [], ◌∷◌, length, take, Some, None, Option, refl, subst, arith}
use Rattle.classes.specs.Outcomes.{Outcome, accepted, refusal}
use Rattle.classes.proofs.Clash.{clash}
use Rattle.tariff.specs.declared.terms.Terms.{Terms}
use Rattle.tariff.specs.Ranges.{checked}
use Rattle.lines.specs.declared.sets.Counts.{Counts}
use Rattle.lines.specs.declared.states.Line.{Line}
use Rattle.contents.specs.declared.contents.Contents.{Contents}
use Rattle.contents.specs.Contents.{new_contents, with_version}
use Rattle.contents.specs.Calls.{Refused, open_refusal, opened, put_refusal, stored, add_refusal, added}
use Rattle.contents.proofs.Refused.{passed}
use Rattle.sheet.specs.declared.records.Kind.{Kind}
use Rattle.sheet.specs.declared.records.Kind.TheVariants.{Opening, Tariff, Line as LineKind, End}
use Rattle.sheet.specs.declared.reading.Draft.{Draft}
use Rattle.sheet.specs.Records.{kind_coded, body_length, opening_version, opening_counts, body_tariff, body_terms, body_number, body_line}
use Rattle.sheet.specs.Reading.{not_ended, due, above, fields_refusal, body_refusal, body_taken, kind_refusal, kind_taken, kind_length, record_refusal, placed_or, finished, read_on, new_draft, sheet_outcome}

pub no_fields_refusal : (r : Option Refused) → fields_refusal r ≡ None → r ≡ None
no_fields_refusal None e = refl
no_fields_refusal (Some x) e = clash cc

-- what an opening, a tariff or a line has to keep
pub record Kept (P : Contents → Type 0) : Type 0 where
  pub new : P new_contents
  pub opening : (b : Contents) (v : ℕ) (c : Counts) → P b → open_refusal b c ≡ None → P (with_version v (opened c b))
  pub tariff : (b : Contents) (n : ℕ) (p : Terms) → P b → put_refusal b n p ≡ None → P (stored n (checked p) b)
  pub line : (b : Contents) (n : ℕ) (l : Line) → P b → add_refusal b n l ≡ None → P (added n l b)

module _ (P : Contents → Type 0) (keep : Kept P) where
  body_keeps : (d : Draft) (kind : Kind) (body : List ℕ) → P d.contents → body_refusal d kind body ≡ None → P (body_taken d kind body).contents
  body_keeps d Opening body s e = keep.opening d.contents (opening_version body) (opening_counts body) s (no_fields_refusal (open_refusal d.contents (opening_counts body)) e)
  body_keeps d Tariff body s e = keep.tariff d.contents (body_tariff body) (body_terms body) s (no_fields_refusal _ (passed (above d.last_tariff (body_tariff body)) (19, []) (fields_refusal (put_refusal d.contents (body_tariff body) (body_terms body))) e).1)
  body_keeps d LineKind body s e = keep.line d.contents (body_number body) (body_line body) s (no_fields_refusal _ (passed (above d.last_line (body_number body)) (19, []) (fields_refusal (add_refusal d.contents (body_number body) (body_line body))) e).1)
  body_keeps d End body s e = s

  kind_keeps : (d : Draft) (kind : Option Kind) (rest : List ℕ) → P d.contents → kind_refusal d kind rest ≡ None → P (kind_taken d kind rest).contents
  kind_keeps d None rest s e = s
  kind_keeps d (Some k) rest s e =
      let is_due = passed (due d.stage k) (19, []) _ e in
      let whole = passed (leb (body_length k) (length rest)) (17, []) _ is_due.1 in
      body_keeps d k (take (body_length k) rest) s whole.1

  -- a sheet that ends well ends with what was read
  end_keeps : (d : Draft) (place : ℕ) (going : Bool) (b : Contents) → not_ended d.stage ≡ going → P d.contents → finished d place ≡ accepted b → P b
  end_keeps d place true b at s e = absurd (let wrong : refusal (17, place ∷ []) ≡ accepted b = rw at at e in clash cc)
  end_keeps d place false b at s e = let same : accepted d.contents ≡ accepted b = rw at at e in let here : d.contents ≡ b = cc in subst P here s

  reading_keeps : (d : Draft) (place n : ℕ) (bytes : List ℕ) (b : Contents) → P d.contents → read_on d place n bytes ≡ accepted b → P b
  unfolding read_on
  reading_keeps d place n [] b s e = end_keeps d place (not_ended d.stage) b refl s e
  reading_keeps d place (suc n) (x ∷ bytes) b s e = reading_keeps d (place + 1) n bytes b s e
  reading_keeps d place zero (x ∷ bytes) b s e =
      by (record_refusal d x bytes) refl e
      (λ kept got. reading_keeps (kind_taken d (kind_coded x) bytes) (place + 1) (kind_length (kind_coded x)) bytes b kept got)
    where
      next : Outcome Contents
      next = read_on (kind_taken d (kind_coded x) bytes) (place + 1) (kind_length (kind_coded x)) bytes

      by : (r : Option Refused) → record_refusal d x bytes ≡ r → placed_or place r next ≡ accepted b → (P (kind_taken d (kind_coded x) bytes).contents → next ≡ accepted b → P b) → P b
      by (Some y) why got on = clash cc
      by None why got on = on (kind_keeps d (kind_coded x) bytes s (passed (not_ended d.stage) (19, []) (kind_refusal d (kind_coded x) bytes) why).1) got

  pub read_keeps : (bytes : List ℕ) (b : Contents) → sheet_outcome bytes ≡ accepted b → P b
  read_keeps bytes b e = reading_keeps new_draft 0 0 bytes b keep.new e
