-- A number read digit by digit: it is given up as soon as it is too large, since more digits only make it larger.
use Rattle.std.proofs.Common.{◌≡◌, ℕ, ◌+◌, ◌-◌, ◌*◌, ◌<◌, ◌≤◌, Bool, true, false, cond, ◌&&◌, eqb, leb, List, [], ◌∷◌, length, get_or, drop, Some, None, Option, sym, refl, ◌∙◌, arith}
use Rattle.std.proofs.lemmas.List.{drop_more, drop_all}
use Rattle.std.proofs.lemmas.Bool.{le-leb, lt-leb, and_right, cond-false}
use Rattle.std.proofs.lemmas.Option.{cond_some}
use Rattle.script.specs.Numbers.{digit_of, digits_only, value_behind, number_of}
use Rattle.classes.proofs.Clash.{clash}

-- what the digits that are left give behind a number
abbrev pub read_on : ℕ → ℕ → List ℕ → Option ℕ
read_on most n bs = cond (digits_only bs && leb (value_behind n bs) most) (Some (value_behind n bs)) None

pub number_is : (most : ℕ) (w : List ℕ) → false ≡ eqb (length w) 0 → read_on most 0 w ≡ number_of most w
number_is most w some = rw (sym some) refl

none_told : (t : Bool) (x : ℕ) → None ≡ cond t (Some x) None → t ≡ false
none_told true x e = clash cc
none_told false x e = refl

value_grows : (n : ℕ) (bs : List ℕ) → n ≤ value_behind n bs
value_grows n [] = omega arith
value_grows n (b ∷ bs) = omega (arith, value_grows (n * 10 + (b - 48)) bs)

pub too_large : (most n : ℕ) (bs : List ℕ) → most < n → None ≡ read_on most n bs
too_large most n bs above = sym (cond-false _ _ _ (and_right (digits_only bs) _ (lt-leb (value_behind n bs) most (omega (arith, value_grows n bs)))))

module _ (most n : ℕ) (bs : List ℕ) (i : ℕ) (within : i < length bs) where
  pub digit_next : (d : ℕ) → Some d ≡ digit_of (get_or bs i 0) → read_on most n (drop i bs) ≡ read_on most (n * 10 + d) (drop (i + 1) bs)
  digit_next d e =
      let told = cond_some _ _ d (sym e) in
      rw (drop_more bs i 0 within, told.0, ← told.1) refl

  -- one digit more, and the number is too large
  pub too_large_next : (d : ℕ) → Some d ≡ digit_of (get_or bs i 0) → most < n * 10 + d → None ≡ read_on most n (drop i bs)
  too_large_next d e above = too_large most (n * 10 + d) (drop (i + 1) bs) above ∙ sym (digit_next d e)

  pub no_digit : None ≡ digit_of (get_or bs i 0) → None ≡ read_on most n (drop i bs)
  no_digit e = rw (drop_more bs i 0 within, none_told _ _ e) refl

pub digits_end : (most n : ℕ) (bs : List ℕ) (i : ℕ) → length bs ≤ i → n ≤ most → Some n ≡ read_on most n (drop i bs)
digits_end most n bs i past small = rw (drop_all i bs past, le-leb n most small) refl
