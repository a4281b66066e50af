-- The first line that is not sound, by places.
use Rattle.std.proofs.Common.{◌≡◌, ℕ, zero, suc, ◌+◌, ◌-◌, ◌<◌, ◌≤◌, Bool, true, false, cond, List, [], ◌∷◌, length, get_or, Some, None, Ok, Err, Option, refl, ap, ◌∙◌, arith}
use Rattle.script.specs.declared.scripts.ScriptError.{ScriptError}
use Rattle.script.specs.declared.scripts.ScriptError.TheVariants.{Refused, NoMemory}
use Rattle.script.specs.declared.scripts.Step.{Step}
use Rattle.script.specs.Fields.{Word}
use Rattle.script.specs.Pieces.{pieces}
use Rattle.script.specs.Scripts.{is_sound, first_unsound, unless_refused, script_of, Failed, ErrorMeaning}
use Rattle.classes.proofs.Clash.{clash}

-- every line is sound
abbrev AllSound : List (List ℕ) → Type 0
AllSound ls = (m : ℕ) → m < length ls → is_sound (get_or ls m []) ≡ true

-- place n, where the lines count from k, is the first that is not sound
pub record FirstAt (k n : ℕ) (ls : List (List ℕ)) : Type 0 where
  pub low : k ≤ n
  pub within : n < k + length ls
  pub here : is_sound (get_or ls (n - k) []) ≡ false
  pub before : (m : ℕ) → m + k < n → is_sound (get_or ls m []) ≡ true

-- what the first line adds to what is known of the others
sound_first : (l : List ℕ) (ls : List (List ℕ)) (k : ℕ) (t : Bool) → is_sound l ≡ t → (first_unsound (k + 1) ls ≡ None → AllSound ls) → cond t (first_unsound (k + 1) ls) (Some k) ≡ None → AllSound (l ∷ ls)
sound_first l ls k true e rest none zero within = e
sound_first l ls k true e rest none (suc m) within = rest none m (omega arith)
sound_first l ls k false e rest none m within = clash cc

all_sound : (ls : List (List ℕ)) (k : ℕ) → first_unsound k ls ≡ None → AllSound ls
all_sound [] k none = λ m within. absurd (omega arith)
all_sound (l ∷ ls) k none = sound_first l ls k (is_sound l) refl (all_sound ls (k + 1)) none

place_first : (l : List ℕ) (ls : List (List ℕ)) (k n : ℕ) (t : Bool) → is_sound l ≡ t → (first_unsound (k + 1) ls ≡ Some n → FirstAt (k + 1) n ls) → cond t (first_unsound (k + 1) ls) (Some k) ≡ Some n → FirstAt k n (l ∷ ls)
place_first l ls k n true e rest some =
    let old = rest some in
    let further : n - k ≡ suc (n - (k + 1)) = omega (arith, old.low) in
    record {
      low = omega (arith, old.low);
      within = omega (arith, old.within);
      here = ap (λ i. is_sound (get_or (l ∷ ls) i [])) further ∙ old.here;
      before = λ m lt. earlier m lt old.before;
    }
  where
    earlier : (m : ℕ) → m + k < n → ((i : ℕ) → i + (k + 1) < n → is_sound (get_or ls i []) ≡ true) → is_sound (get_or (l ∷ ls) m []) ≡ true
    earlier zero lt old = e
    earlier (suc m) lt old = old m (omega arith)
place_first l ls k n false e rest some =
    let same : n ≡ k = cc in
    let none : n - k ≡ 0 = omega arith in
    record {
      low = omega arith;
      within = omega arith;
      here = ap (λ i. is_sound (get_or (l ∷ ls) i [])) none ∙ e;
      before = λ m lt. absurd (omega arith);
    }

first_at : (ls : List (List ℕ)) (k n : ℕ) → first_unsound k ls ≡ Some n → FirstAt k n ls
first_at [] k n some = clash cc
first_at (l ∷ ls) k n some = place_first l ls k n (is_sound l) refl (first_at ls (k + 1) n) some

-- which of the two a script is
none_refused : (o : Option ℕ) (steps given : List (Step Word)) → Ok given ≡ unless_refused o steps → o ≡ None
none_refused None steps given e = refl
none_refused (Some n) steps given e = clash cc

one_refused : (o : Option ℕ) (steps : List (Step Word)) (n : ℕ) → Err n ≡ unless_refused o steps → o ≡ Some n
one_refused None steps n e = clash cc
one_refused (Some m) steps n e = cc

module _ (text : List ℕ) where
  pub read_meaning : (steps : List (Step Word)) → Ok steps ≡ script_of text → AllSound (pieces 10 text)
  read_meaning steps e = all_sound (pieces 10 text) 1 (none_refused _ _ steps e)

  pub error_meaning : (e : ScriptError) → Failed e (script_of text) → ErrorMeaning e (pieces 10 text)
  error_meaning (Refused n) e =
      let at = first_at (pieces 10 text) 1 n (one_refused (first_unsound 1 (pieces 10 text)) _ n e) in
      record { low = at.low; within = omega (arith, at.within); here = at.here; before = at.before }
  error_meaning NoMemory e = tt
