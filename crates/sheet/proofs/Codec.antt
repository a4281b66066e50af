-- A record's body and what it holds are one: each gives the other back.
use Rattle.std.proofs.Common.{◌≡◌, ℕ, ◌+◌, ◌^◌, ◌<◌, ◌≤◌, List, [], ◌∷◌, ◌++◌, length, get_or, take, drop, sym, ap, ◌∙◌, arith}
use Rattle.std.specs.Int.Digits.{number_from_digits as number}
use Rattle.std.proofs.lemmas.List.Elements.{All-take, All-drop}
use Rattle.std.proofs.lemmas.List.{take_all, take-append-drop, drop-drop, drop_all, drop_more, length-take-le, length-drop}
use Rattle.tariff.specs.declared.terms.Terms.{Terms}
use Rattle.lines.specs.declared.states.Line.{Line}
use Rattle.sheet.specs.Fields.{high_first, field_at}
use Rattle.sheet.specs.Records.{opening_record, tariff_record, line_record, opening_version, opening_counts, body_tariff, body_terms, body_number, body_line}
use Rattle.sheet.proofs.Bytes.{AreBytes, bytes_part, high_first_after, number_high_first}

-- fields in their places, from the last to the first
module _ (body : List ℕ) (bytes : AreBytes body) where
  field_bytes : (p w : ℕ) → p + w ≤ length body → high_first w (field_at body p w) ≡ take w (drop p body)
  field_bytes p w fits =
      let size : length (take w (drop p body)) ≡ w = length-take-le w (drop p body) (rw (length-drop p body) (omega arith)) in
      let part = bytes_part body p w fits in
      ap (λ xs. high_first w (number 256 xs)) part ∙ ap (λ n. high_first n (number 256 (take w (drop p body)))) (sym size) ∙ high_first_after 0 (take w (drop p body)) (All-take (λ d. d < 256) w (drop p body) (All-drop (λ d. d < 256) p body bytes))

  field_then : (p w : ℕ) (rest : List ℕ) → p + w ≤ length body → rest ≡ drop (p + w) body → high_first w (field_at body p w) ++ rest ≡ drop p body
  field_then p w rest fits behind =
      ap (λ xs. xs ++ rest) (field_bytes p w fits)
      ∙ ap (λ xs. take w (drop p body) ++ xs) (behind ∙ sym (drop-drop w p body))
      ∙ take-append-drop w (drop p body)

  byte_then : (p : ℕ) (rest : List ℕ) → p + 1 ≤ length body → rest ≡ drop (p + 1) body → field_at body p 1 ∷ rest ≡ drop p body
  byte_then p rest fits behind =
      let here : p < length body = omega arith in
      let one : field_at body p 1 ≡ get_or body p 0 = omega arith in
      ap (λ b. b ∷ rest) one ∙ ap (λ xs. get_or body p 0 ∷ xs) behind ∙ sym (drop_more body p 0 here)

  pub opening_again : length body ≡ 5 → opening_record (opening_version body) (opening_counts body) ≡ 1 ∷ body
  opening_again size =
      let none : [] ≡ drop 5 body = sym (drop_all 5 body (omega arith)) in
      ap (λ xs. 1 ∷ xs)
      (byte_then 0 _ (omega arith)
      (byte_then 1 _ (omega arith)
      (byte_then 2 _ (omega arith)
      (byte_then 3 _ (omega arith)
      (byte_then 4 _ (omega arith) none)))))

  pub tariff_again : length body ≡ 30 → tariff_record (body_tariff body) (body_terms body) ≡ 2 ∷ body
  unfolding tariff_record
  tariff_again size =
      let none : [] ≡ drop 30 body = sym (drop_all 30 body (omega arith)) in
      ap (λ xs. 2 ∷ xs)
      (byte_then 0 _ (omega arith)
      (byte_then 1 _ (omega arith)
      (field_then 2 4 _ (omega arith)
      (field_then 6 4 _ (omega arith)
      (byte_then 10 _ (omega arith)
      (field_then 11 4 _ (omega arith)
      (field_then 15 4 _ (omega arith)
      (field_then 19 4 _ (omega arith)
      (field_then 23 4 _ (omega arith)
      (field_then 27 2 _ (omega arith)
      (byte_then 29 _ (omega arith) none)))))))))))

  pub line_again : length body ≡ 35 → line_record (body_number body) (body_line body) ≡ 3 ∷ body
  unfolding line_record
  line_again size =
      let last : high_first 8 (field_at body 27 8) ≡ drop 27 body = field_bytes 27 8 (omega arith) ∙ take_all 8 (drop 27 body) (rw (length-drop 27 body) (omega arith)) in
      ap (λ xs. 3 ∷ xs)
      (field_then 0 2 _ (omega arith)
      (byte_then 2 _ (omega arith)
      (field_then 3 8 _ (omega arith)
      (field_then 11 8 _ (omega arith)
      (field_then 19 8 _ (omega arith) last)))))

-- what a tariff's body holds
pub record TermsFit (p : Terms) : Type 0 where
  pub unit : p.unit < 256 ^ 4
  pub rate : p.rate < 256 ^ 4
  pub threshold : p.threshold < 256 ^ 4
  pub offset : p.offset < 256 ^ 4
  pub minimum : p.minimum < 256 ^ 4
  pub most : p.«cap» < 256 ^ 4
  pub vat : p.vat < 256 ^ 2

abbrev pub tariff_body : ℕ → Terms → List ℕ
tariff_body n p = drop 1 (tariff_record n p)

abbrev pub line_body : ℕ → Line → List ℕ
line_body n l = drop 1 (line_record n l)

pub tariff_held : (n : ℕ) (p : Terms) → TermsFit p → (body_tariff (tariff_body n p) ≡ n) × (body_terms (tariff_body n p) ≡ p)
unfolding tariff_record high_first
tariff_held n p fit = (
  omega arith,
  λ i. record {
    measure = one p.measure i;
    unit = number_high_first 4 p.unit fit.unit i;
    rate = number_high_first 4 p.rate fit.rate i;
    rounding = one p.rounding i;
    threshold = number_high_first 4 p.threshold fit.threshold i;
    offset = number_high_first 4 p.offset fit.offset i;
    minimum = number_high_first 4 p.minimum fit.minimum i;
    «cap» = number_high_first 4 p.«cap» fit.most i;
    vat = number_high_first 2 p.vat fit.vat i;
    vat_rounding = one p.vat_rounding i;
  },
)
  where
    one : (x : ℕ) → number 256 (x ∷ []) ≡ x
    one x = omega arith

pub record LineFits (n : ℕ) (l : Line) : Type 0 where
  pub number : n < 256 ^ 2
  pub vehicles : l.vehicles.0 < 256 ^ 8
  pub times : l.times.0 < 256 ^ 8
  pub locations : l.locations.0 < 256 ^ 8
  pub users : l.users.0 < 256 ^ 8

pub line_held : (n : ℕ) (l : Line) → LineFits n l → (body_number (line_body n l) ≡ n) × (body_line (line_body n l) ≡ l)
unfolding line_record high_first
line_held n l fit = (
  number_high_first 2 n fit.number,
  λ i. record {
    tariff = one l.tariff i;
    vehicles = record { 0 = number_high_first 8 l.vehicles.0 fit.vehicles i };
    times = record { 0 = number_high_first 8 l.times.0 fit.times i };
    locations = record { 0 = number_high_first 8 l.locations.0 fit.locations i };
    users = record { 0 = number_high_first 8 l.users.0 fit.users i };
  },
)
  where
    one : (x : ℕ) → number 256 (x ∷ []) ≡ x
    one x = omega arith
