-- Every accepted call leaves a sound book sound.
use Rattle.std.proofs.Common.{◌≡◌, ℕ, ◌≤◌, true, false, ltb, ◌≢◌, ◌⊎◌, [], length, is_some, Some, None, Option, sym, refl, ◌∙◌, subst, inl, inr, ⊎_elim, arith, length-set}
use Rattle.std.proofs.lemmas.List.{length-replicate}
use Rattle.std.proofs.lemmas.Bool.{both_ways, cases_eq, false≢true, true≢false}
use Rattle.classes.specs.declared.refusal.Classes.{Classes}
use Rattle.classes.proofs.Clash.{clash}
use Rattle.tariff.specs.declared.terms.Tariff.{Tariff}
use Rattle.tariff.specs.declared.terms.Terms.{Terms}
use Rattle.tariff.specs.Ranges.{checked, numbers_of, InRange}
use Rattle.lines.specs.declared.sets.Counts.{Counts}
use Rattle.lines.specs.declared.states.Line.{Line}
use Rattle.lines.specs.declared.states.LineState.{LineState}
use Rattle.lines.specs.declared.states.LineState.TheVariants.{Free, Live, Withdrawn}
use Rattle.lines.specs.Sets.{counts_in_range}
use Rattle.lines.specs.Lines.{Combination, claims, line_fits, lines_meet, state_meets}
use Rattle.lines.specs.Tables.{first_overlap}
use Rattle.gaps.specs.Gaps.{first_gap}
use Rattle.lines.proofs.Numbers.{none_found}
use Rattle.lines.proofs.Overlaps.{overlap_meet}
use Rattle.gaps.proofs.Meaning.{no_gap}
use Rattle.tariff.proofs.Ranges.{checked_exact}
use Rattle.contents.specs.declared.contents.Contents.{Contents}
use Rattle.contents.specs.declared.contents.Phase.{Phase}
use Rattle.contents.specs.declared.contents.Phase.TheVariants.{Blank, Draft, Issued}
use Rattle.contents.specs.Contents.{in_phase, new_contents, tariff_at, line_at, line_number, tariff_number, with_line, with_tariff}
use Rattle.contents.specs.Calls.{Refused, settled, is_free, is_withdrawn, overlap_with, overlap_refusal, open_refusal, opened, put_refusal, stored, add_refusal, added, withdraw_refusal, withdrawn, restore_refusal, restored, in_the_way, made_live, set_aside, given_up, strike_refusal, struck, issue_refusal, issued, reopen_refusal, reopened}
use Rattle.contents.proofs.Refused.{passed, without_gap}
use Rattle.book.specs.Sound.{Sound, Supported, AtMostOne}
use Rattle.book.proofs.Places.{written_here, written_elsewhere, empty_number, number_range}

-- a call that is refused keeps what was, so only acceptance matters
pub settled_sound : (r : Option Refused) (before after : Contents) → Sound before → (r ≡ None → Sound after) → Sound (settled r before after)
settled_sound (Some x) before after s accepts = s
settled_sound None before after s accepts = accepts refl

-- a book is in one phase
pub draft_only : (b : Contents) → in_phase Draft b ≡ true → (in_phase Blank b ≡ false) × (in_phase Issued b ≡ false)
draft_only b e = by b.phase refl
  where
    by : (p : Phase) → b.phase ≡ p → (in_phase Blank b ≡ false) × (in_phase Issued b ≡ false)
    by Blank at = absurd (let wrong : false ≡ true = rw at at e in false≢true wrong)
    by Draft at = (rw at refl, rw at refl)
    by Issued at = absurd (let wrong : false ≡ true = rw at at e in false≢true wrong)

issued_only : (b : Contents) → in_phase Issued b ≡ true → in_phase Blank b ≡ false
issued_only b e = by b.phase refl
  where
    by : (p : Phase) → b.phase ≡ p → in_phase Blank b ≡ false
    by Blank at = absurd (let wrong : false ≡ true = rw at at e in false≢true wrong)
    by Draft at = rw at refl
    by Issued at = rw at refl

-- a new book
new_line : (n : ℕ) → line_at new_contents n ≡ Free
new_line n = empty_number Free 256 n

new_tariff : (n : ℕ) → tariff_at new_contents n ≡ None
new_tariff n = empty_number None 64 n

-- no number of a new book is live or withdrawn
no_live : (n : ℕ) (l : Line) → line_at new_contents n ≡ Live l → ⊥
no_live n l e = let both : Free ≡ Live l = sym (new_line n) ∙ e in clash cc

no_withdrawn : (n : ℕ) (l : Line) → line_at new_contents n ≡ Withdrawn l → ⊥
no_withdrawn n l e = let both : Free ≡ Withdrawn l = sym (new_line n) ∙ e in clash cc

no_tariff : (n : ℕ) (t : Tariff) → tariff_at new_contents n ≡ Some t → ⊥
no_tariff n t e = let both : None ≡ Some t = sym (new_tariff n) ∙ e in clash cc

pub new_sound : Sound new_contents
new_sound = record {
  apart = λ k kc m n x y ex ey cx cy. absurd (no_live m x ex);
  live = λ n l e. absurd (no_live n l e);
  withdrawn = λ n l e. absurd (no_withdrawn n l e);
  in_range = λ n t e. absurd (no_tariff n t e);
  blank = λ _. refl;
  counted = λ e. absurd (true≢false e);
  whole = λ e. absurd (false≢true e);
  tariff_places = length-replicate {A = Option Tariff} 64 None;
  line_places = length-replicate 256 Free;
}

-- open
open_new : (c : Counts) → counts_in_range c ≡ true → Sound (opened c new_contents)
open_new c range = record {
  apart = λ k kc m n x y ex ey cx cy. absurd (no_live m x ex);
  live = λ n l e. absurd (no_live n l e);
  withdrawn = λ n l e. absurd (no_withdrawn n l e);
  in_range = λ n t e. absurd (no_tariff n t e);
  blank = λ e. absurd (false≢true e);
  counted = λ _. range;
  whole = λ e. absurd (false≢true e);
  tariff_places = length-replicate {A = Option Tariff} 64 None;
  line_places = length-replicate 256 Free;
}

pub open_sound : (b : Contents) (c : Counts) → Sound b → open_refusal b c ≡ None → Sound (opened c b)
open_sound b c s e =
    let first = passed (in_phase Blank b) (1, []) _ e in
    let second = passed (counts_in_range c) (2, []) None first.1 in
    let P : Contents → Type 0 = λ b. Sound (opened c b) in
    subst P (sym (s.blank first.0)) (open_new c second.0)

-- put
module _ (b : Contents) (n : ℕ) (t : Tariff) (range : tariff_number n ≡ true) (s : Sound b) where
  tariff_range : (1 ≤ n) × (n ≤ length b.tariffs)
  tariff_range = let r = number_range n 64 range in (r.0, omega (arith, r.1, s.tariff_places))

  put_here : tariff_at (with_tariff n t b) n ≡ Some t
  put_here = written_here None b.tariffs n (Some t) tariff_range.0 tariff_range.1

  put_elsewhere : (m : ℕ) → m ≢ n → tariff_at (with_tariff n t b) m ≡ tariff_at b m
  put_elsewhere m apart = written_elsewhere None b.tariffs n m (Some t) tariff_range.0 apart

  -- a tariff that was put is still put, if perhaps another
  still_supported : (l : Line) → Supported b l → Supported (with_tariff n t b) l
  still_supported l h =
      ⊎_elim
      (λ e. record { tariff = t; put = rw e put_here; fits = h.fits })
      (λ ne. record { tariff = h.tariff; put = put_elsewhere l.tariff ne ∙ h.put; fits = h.fits })
      (cases_eq l.tariff n)

  put_in_range : InRange (numbers_of t) → (m : ℕ) (x : Tariff) → tariff_at (with_tariff n t b) m ≡ Some x → InRange (numbers_of x)
  put_in_range fine m x e =
      ⊎_elim
      (λ same. let as_put : t ≡ x = let both : Some t ≡ Some x = sym put_here ∙ (rw same at e) in cc in subst (λ y. InRange (numbers_of y)) as_put fine)
      (λ apart. s.in_range m x (sym (put_elsewhere m apart) ∙ e))
      (cases_eq m n)

  with_tariff_sound : InRange (numbers_of t) → in_phase Draft b ≡ true → Sound (with_tariff n t b)
  with_tariff_sound fine draft = record {
    apart = s.apart;
    live = λ m l e. still_supported l (s.live m l e);
    withdrawn = λ m l e. still_supported l (s.withdrawn m l e);
    in_range = put_in_range fine;
    blank = λ e. absurd (both_ways _ (draft_only b draft).0 e);
    counted = s.counted;
    whole = λ e. absurd (both_ways _ (draft_only b draft).1 e);
    tariff_places = length-set b.tariffs _ (Some t) ∙ s.tariff_places;
    line_places = s.line_places;
  }

-- a line that changes its state: it may become live only where it is supported and meets no other live line
module _ (b : Contents) (n : ℕ) (state : LineState) (range : line_number n ≡ true) (s : Sound b) where
  line_range : (1 ≤ n) × (n ≤ length b.lines.states)
  line_range = let r = number_range n 256 range in (r.0, omega (arith, r.1, s.line_places))

  change_here : line_at (with_line n state b) n ≡ state
  change_here = written_here Free b.lines.states n state line_range.0 line_range.1

  change_elsewhere : (m : ℕ) → m ≢ n → line_at (with_line n state b) m ≡ line_at b m
  change_elsewhere m apart = written_elsewhere Free b.lines.states n m state line_range.0 apart

  -- what stands at a number after the change stood there before, or is the new state
  after_change : (m : ℕ) (x : LineState) → line_at (with_line n state b) m ≡ x → ((m ≡ n) × (state ≡ x)) ⊎ ((m ≢ n) × (line_at b m ≡ x))
  after_change m x e =
      ⊎_elim
      (λ same. inl (same, sym change_here ∙ (rw same at e)))
      (λ apart. inr (apart, sym (change_elsewhere m apart) ∙ e))
      (cases_eq m n)

  module _ (supported : (l : Line) → (state ≡ Live l) ⊎ (state ≡ Withdrawn l) → Supported b l) (clear : (l : Line) → state ≡ Live l → (m : ℕ) (y : Line) → line_at b m ≡ Live y → (k : Classes) → Combination b.counts k → claims l k ≡ true → claims y k ≡ true → ⊥) where
    still_apart : AtMostOne (with_line n state b)
    still_apart k kc p q x y ex ey cx cy =
        ⊎_elim
        (λ new_x. ⊎_elim
        (λ new_y. new_x.0 ∙ sym new_y.0)
        (λ old_y. absurd (clear x new_x.1 q y old_y.1 k kc cx cy))
        (after_change q (Live y) ey))
        (λ old_x. ⊎_elim
        (λ new_y. absurd (clear y new_y.1 p x old_x.1 k kc cy cx))
        (λ old_y. s.apart k kc p q x y old_x.1 old_y.1 cx cy)
        (after_change q (Live y) ey))
        (after_change p (Live x) ex)

    carried : (l : Line) → Supported b l → Supported (with_line n state b) l
    carried l h = record { tariff = h.tariff; put = h.put; fits = h.fits }

    with_line_sound : in_phase Draft b ≡ true → Sound (with_line n state b)
    with_line_sound draft = record {
      apart = still_apart;
      live = λ m l e. carried l (⊎_elim (λ new. supported l (inl new.1)) (λ old. s.live m l old.1) (after_change m (Live l) e));
      withdrawn = λ m l e. carried l (⊎_elim (λ new. supported l (inr new.1)) (λ old. s.withdrawn m l old.1) (after_change m (Withdrawn l) e));
      in_range = s.in_range;
      blank = λ e. absurd (both_ways _ (draft_only b draft).0 e);
      counted = s.counted;
      whole = λ e. absurd (both_ways _ (draft_only b draft).1 e);
      tariff_places = s.tariff_places;
      line_places = length-set b.lines.states _ state ∙ s.line_places;
    }

-- where no live line is in the way of a line, none claims a combination that it claims
no_overlap : (o : Option ℕ) → overlap_with o ≡ None → o ≡ None
no_overlap None e = refl
no_overlap (Some n) e = clash cc

pub clear_of_lines : (b : Contents) (l : Line) → overlap_refusal b l ≡ None → (m : ℕ) (y : Line) → line_at b m ≡ Live y → (k : Classes) → Combination b.counts k → claims l k ≡ true → claims y k ≡ true → ⊥
clear_of_lines b l none m y live k kc cl cy =
    let apart : state_meets l (line_at b m) ≡ false = none_found (state_meets l) refl b.lines.states (no_overlap (first_overlap b.lines.states l) none) m in
    let never : lines_meet l y ≡ false = rw live at apart in
    both_ways _ never (overlap_meet b.counts l y (record { shared = k; combination = kc; by_first = cl; by_second = cy }))

same_live : (x y : Line) → Live x ≡ Live y → x ≡ y
same_live x y e = cc

same_withdrawn : (x y : Line) → Withdrawn x ≡ Withdrawn y → x ≡ y
same_withdrawn x y e = cc

not_both : (x y : Line) → Live x ≡ Withdrawn y → ⊥
not_both x y e = clash cc

neither : (x : Line) → (Free ≡ Live x) ⊎ (Free ≡ Withdrawn x) → ⊥
neither x (inl e) = clash cc
neither x (inr e) = clash cc

some_value : {A : Type 0} (o : Option A) → is_some o ≡ true → (x : A) × (o ≡ Some x)
some_value (Some x) h = (x, refl)
some_value None h = absurd (false≢true h)

-- put
pub put_sound : (b : Contents) (n : ℕ) (terms : Terms) → Sound b → put_refusal b n terms ≡ None → Sound (stored n (checked terms) b)
put_sound b n terms s e =
    let first = passed (in_phase Draft b) (1, []) _ e in
    let second = passed (tariff_number n) (3, []) _ first.1 in
    by first.0 second.0 (checked terms) refl
  where
    by : in_phase Draft b ≡ true → tariff_number n ≡ true → (o : Option Tariff) → checked terms ≡ o → Sound (stored n o b)
    by draft range None made = s
    by draft range (Some t) made =
        let exact = checked_exact terms t made in
        with_tariff_sound b n t range s (rw exact.1 exact.0) draft

-- add
pub add_sound : (b : Contents) (n : ℕ) (l : Line) → Sound b → add_refusal b n l ≡ None → Sound (added n l b)
add_sound b n l s e =
    let phase = passed (in_phase Draft b) (1, []) _ e in
    let number = passed (line_number n) (5, []) _ phase.1 in
    let free = passed (is_free (line_at b n)) (6, []) _ number.1 in
    let tariff = passed (tariff_number l.tariff) (3, []) _ free.1 in
    let put = passed (is_some (tariff_at b l.tariff)) (9, []) _ tariff.1 in
    let fit = passed (line_fits b.counts l) (10, []) _ put.1 in
    let some = some_value (tariff_at b l.tariff) put.0 in
    let new : Supported b l = record { tariff = some.0; put = some.1; fits = fit.0 } in
    with_line_sound b n (Live l) number.0 s
    (λ x how. ⊎_elim (λ h. subst (Supported b) (same_live l x h) new) (λ h. absurd (not_both l x h)) how)
    (λ x h m y live k kc cx cy. clear_of_lines b l fit.1 m y live k kc (subst (λ z. claims z k ≡ true) (sym (same_live l x h)) cx) cy)
    phase.0

-- withdraw, restore and strike: what stood at the number, and what stands there now
pub withdraw_sound : (b : Contents) (n : ℕ) → Sound b → withdraw_refusal b n ≡ None → Sound (withdrawn n b)
withdraw_sound b n s e =
    let phase = passed (in_phase Draft b) (1, []) _ e in
    let number = passed (line_number n) (5, []) _ phase.1 in
    by phase.0 number.0 (line_at b n) refl
  where
    by : in_phase Draft b ≡ true → line_number n ≡ true → (state : LineState) → line_at b n ≡ state → Sound (with_line n (set_aside state) b)
    by draft range Free at = with_line_sound b n Free range s (λ x how. absurd (neither x how)) (λ x h. absurd (neither x (inl h))) draft
    by draft range (Live l) at =
        with_line_sound b n (Withdrawn l) range s
        (λ x how. ⊎_elim (λ h. absurd (not_both x l (sym h))) (λ h. subst (Supported b) (same_withdrawn l x h) (s.live n l at)) how)
        (λ x h. absurd (not_both x l (sym h)))
        draft
    by draft range (Withdrawn l) at =
        with_line_sound b n (Withdrawn l) range s
        (λ x how. ⊎_elim (λ h. absurd (not_both x l (sym h))) (λ h. subst (Supported b) (same_withdrawn l x h) (s.withdrawn n l at)) how)
        (λ x h. absurd (not_both x l (sym h)))
        draft

pub restore_sound : (b : Contents) (n : ℕ) → Sound b → restore_refusal b n ≡ None → Sound (restored n b)
restore_sound b n s e =
    let phase = passed (in_phase Draft b) (1, []) _ e in
    let number = passed (line_number n) (5, []) _ phase.1 in
    let kept = passed (is_withdrawn (line_at b n)) (8, []) _ number.1 in
    by phase.0 number.0 (line_at b n) refl kept.0 kept.1
  where
    by : in_phase Draft b ≡ true → line_number n ≡ true → (state : LineState) → line_at b n ≡ state → is_withdrawn state ≡ true → in_the_way b state ≡ None → Sound (with_line n (made_live state) b)
    by draft range Free at was clear = absurd (false≢true was)
    by draft range (Live l) at was clear = absurd (false≢true was)
    by draft range (Withdrawn l) at was clear =
        with_line_sound b n (Live l) range s
        (λ x how. ⊎_elim (λ h. subst (Supported b) (same_live l x h) (s.withdrawn n l at)) (λ h. absurd (not_both l x h)) how)
        (λ x h m y live k kc cx cy. clear_of_lines b l clear m y live k kc (subst (λ z. claims z k ≡ true) (sym (same_live l x h)) cx) cy)
        draft

pub strike_sound : (b : Contents) (n : ℕ) → Sound b → strike_refusal b n ≡ None → Sound (struck n b)
strike_sound b n s e =
    let phase = passed (in_phase Draft b) (1, []) _ e in
    let number = passed (line_number n) (5, []) _ phase.1 in
    let kept = passed (is_withdrawn (line_at b n)) (8, []) None number.1 in
    by phase.0 number.0 (line_at b n) kept.0
  where
    by : in_phase Draft b ≡ true → line_number n ≡ true → (state : LineState) → is_withdrawn state ≡ true → Sound (with_line n (given_up state) b)
    by draft range Free was = absurd (false≢true was)
    by draft range (Live l) was = absurd (false≢true was)
    by draft range (Withdrawn l) was = with_line_sound b n Free range s (λ x how. absurd (neither x how)) (λ x h. absurd (neither x (inl h))) draft

-- issue
pub issue_sound : (b : Contents) → Sound b → issue_refusal b ≡ None → Sound (issued b)
issue_sound b s e =
    let phase = passed (in_phase Draft b) (1, []) _ e in
    let last = passed (ltb b.version 255) (13, []) _ phase.1 in
    record {
      apart = s.apart;
      live = λ n l at. carry l (s.live n l at);
      withdrawn = λ n l at. carry l (s.withdrawn n l at);
      in_range = s.in_range;
      blank = λ h. absurd (false≢true h);
      counted = λ _. s.counted (draft_only b phase.0).0;
      whole = λ _. no_gap b.counts b.lines.states (without_gap (first_gap b.counts b.lines.states) last.1);
      tariff_places = s.tariff_places;
      line_places = s.line_places;
    }
  where
    carry : (l : Line) → Supported b l → Supported (issued b) l
    carry l h = record { tariff = h.tariff; put = h.put; fits = h.fits }

-- reopen
pub reopen_sound : (b : Contents) → Sound b → reopen_refusal b ≡ None → Sound (reopened b)
reopen_sound b s e =
    let phase = passed (in_phase Issued b) (1, []) None e in
    record {
      apart = s.apart;
      live = λ n l at. carry l (s.live n l at);
      withdrawn = λ n l at. carry l (s.withdrawn n l at);
      in_range = s.in_range;
      blank = λ h. absurd (false≢true h);
      counted = λ _. s.counted (issued_only b phase.0);
      whole = λ h. absurd (false≢true h);
      tariff_places = s.tariff_places;
      line_places = s.line_places;
    }
  where
    carry : (l : Line) → Supported b l → Supported (reopened b) l
    carry l h = record { tariff = h.tariff; put = h.put; fits = h.fits }
