-- What is read from a sheet is sound: it is made by open, put and add.
use Rattle.std.proofs.Common.{◌≡◌, ℕ, true, false, List, [], None, sym, refl, ap, ◌∙◌, subst, arith}
use Rattle.std.proofs.lemmas.Bool.{both_ways}
use Rattle.classes.specs.Outcomes.{Outcome, accepted, refusal}
use Rattle.classes.proofs.Clash.{clash}
use Rattle.lines.specs.declared.states.Line.{Line}
use Rattle.contents.specs.declared.contents.Contents.{Contents}
use Rattle.contents.specs.declared.contents.Phase.TheVariants.{Blank}
use Rattle.contents.specs.Contents.{in_phase, with_version}
use Rattle.contents.specs.Calls.{unless, answered, settled, opened}
use Rattle.contents.proofs.Refused.{answered_accepted, passed}
use Rattle.sheet.specs.Reading.{sheet_outcome, sheet_contents, contents_in, refused_in, read_refusal}
use Rattle.sheet.specs.Acceptable.{Acceptable}
use Rattle.sheet.specs.Writing.{sheet_of}
use Rattle.sheet.proofs.Accepted.{acceptable_accepted}
use Rattle.sheet.proofs.Keeping.{read_keeps}
use Rattle.sheet.proofs.Remaining.{accepted_acceptable}
use Rattle.sheet.proofs.Rewritten.{acceptable_rewritten}
use Rattle.std.specs.Int.Digits.{AllBelowBase}
use Rattle.book.specs.Sound.{Sound, Supported}
use Rattle.book.proofs.Keeps.{new_sound, open_sound, put_sound, add_sound}

-- the version may be any, once the book is not blank
version_sound : (v : ℕ) (b : Contents) → in_phase Blank b ≡ false → Sound b → Sound (with_version v b)
version_sound v b other s = record {
  apart = s.apart;
  live = λ n l e. carry l (s.live n l e);
  withdrawn = λ n l e. carry l (s.withdrawn n l e);
  in_range = s.in_range;
  blank = λ e. absurd (both_ways _ other e);
  counted = s.counted;
  whole = s.whole;
  tariff_places = s.tariff_places;
  line_places = s.line_places;
}
  where
    carry : (l : Line) → Supported b l → Supported (with_version v b) l
    carry l h = record { tariff = h.tariff; put = h.put; fits = h.fits }

-- a book that is read
pub sheet_sound : (bytes : List ℕ) (b : Contents) → sheet_outcome bytes ≡ accepted b → Sound b
sheet_sound bytes b e = read_keeps Sound (record {
  new = new_sound;
  opening = λ b v c s opens. version_sound v (opened c b) refl (open_sound b c s opens);
  tariff = λ b n p s puts. put_sound b n p s puts;
  line = λ b n l s adds. add_sound b n l s adds;
}) bytes b e

-- read
pub read_sound : (b : Contents) (bytes : List ℕ) → read_refusal b bytes ≡ None → Sound (sheet_contents bytes)
read_sound b bytes e = by (sheet_outcome bytes) refl (passed (in_phase Blank b) (1, []) (refused_in (sheet_outcome bytes)) e).1
  where
    by : (o : Outcome Contents) → sheet_outcome bytes ≡ o → refused_in o ≡ None → Sound (contents_in o)
    by (accepted x) at none = sheet_sound bytes x at
    by (refusal r) at none = clash cc

-- a read that is accepted has read the sheet
pub read_accepted : (b : Contents) (bytes : List ℕ) → answered (read_refusal b bytes) (tt {0}) ≡ accepted (tt {0}) → (read_refusal b bytes ≡ None) × (sheet_outcome bytes ≡ accepted (sheet_contents bytes))
read_accepted b bytes e =
    let none = (answered_accepted (read_refusal b bytes) (tt {0}) (tt {0}) e).0 in
    (none, by (sheet_outcome bytes) (passed (in_phase Blank b) (1, []) (refused_in (sheet_outcome bytes)) none).1)
  where
    by : (o : Outcome Contents) → refused_in o ≡ None → o ≡ accepted (contents_in o)
    by (accepted x) h = refl
    by (refusal r) h = clash cc

-- an acceptable sheet is read into a blank book
pub acceptable_read : (b held : Contents) (bytes : List ℕ) → in_phase Blank b ≡ true → Acceptable bytes held → read_refusal b bytes ≡ None
acceptable_read b held bytes blank a =
    ap (λ t. unless t (1, []) (refused_in (sheet_outcome bytes))) blank ∙ ap refused_in (acceptable_accepted bytes held a)

module _ (b after : Contents) (bytes : List ℕ) (small : AllBelowBase 256 bytes) (left : after ≡ settled (read_refusal b bytes) b (sheet_contents bytes)) (e : answered (read_refusal b bytes) (tt {0}) ≡ accepted (tt {0})) where
  pub read_acceptable : Acceptable bytes after
  read_acceptable =
      let r = read_accepted b bytes e in
      let same = left ∙ ap (λ w. settled w b (sheet_contents bytes)) r.0 in
      subst (Acceptable bytes) (sym same) (accepted_acceptable bytes (sheet_contents bytes) small r.1)

  pub read_rewritten : sheet_of after ≡ bytes
  read_rewritten = acceptable_rewritten bytes after read_acceptable
