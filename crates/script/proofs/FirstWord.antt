-- The first word of a line, and the words behind it.
use Rattle.std.proofs.Common.{◌≡◌, ℕ, suc, ◌<◌, ◌≤◌, Bool, true, false, cond, not, ltb, List, [], ◌∷◌, length, take, drop, Some, None, sym, refl, ap, subst, ◌∙◌, one-add, arith}
use Rattle.std.specs.Prelude.{◌==◌}
use Rattle.std.specs.List.{slice_split, onto_first, position, position_or_len}
use Rattle.std.specs.Option.{unwrap_or}
use Rattle.std.proofs.lemmas.Option.{cond_some}
use Rattle.std.proofs.lemmas.Bool.{ltb-true, ltb-false}
use Rattle.script.specs.Fields.{Word}
use Rattle.script.specs.Pieces.{filled, words_of}
use Rattle.classes.proofs.Clash.{clash}

-- a byte is a space
abbrev space : ℕ → Bool
space b = b == 32

-- where the first space is, or the end
abbrev pub first_end : List ℕ → ℕ
first_end text = position_or_len (λ b. b == 32) text

-- where the first byte is that is no space, or the end
abbrev first_start : List ℕ → ℕ
first_start text = position_or_len (λ b. not (b == 32)) text

-- one byte more in front of a first word
longer : (b c : ℕ) (ps : List (List ℕ)) (w : List ℕ) (ws : List Word) → filled (onto_first c ps) ≡ (c ∷ w) ∷ ws → filled (onto_first b (onto_first c ps)) ≡ (b ∷ c ∷ w) ∷ ws
longer b c [] w ws e =
    let first : w ≡ [] = cc in
    let rest : ws ≡ [] = cc in
    rw (first, rest) refl
longer b c (p ∷ ps) w ws e =
    let first : w ≡ p = cc in
    let rest : ws ≡ filled ps = cc in
    rw (first, rest) refl

-- a first word ends at the first space
ends_at : (b c : ℕ) (cs : List ℕ) (t : Bool) → space c ≡ t → filled (onto_first c (slice_split (λ x. x == 32) cs)) ≡ (c ∷ take (first_end cs) cs) ∷ words_of (drop (first_end cs) cs)
    → filled (onto_first b (slice_split (λ x. x == 32) (c ∷ cs))) ≡ (b ∷ take (first_end (c ∷ cs)) (c ∷ cs)) ∷ words_of (drop (first_end (c ∷ cs)) (c ∷ cs))
ends_at b c cs true e rest = rw (e, e) refl
ends_at b c cs false e rest =
    let long : first_end (c ∷ cs) ≡ suc (first_end cs) = rw e (one-add _) in
    rw (long, e) (longer b c (slice_split (λ x. x == 32) cs) _ _ rest)

word_ends : (b : ℕ) (bs : List ℕ) → filled (onto_first b (slice_split (λ x. x == 32) bs)) ≡ (b ∷ take (first_end bs) bs) ∷ words_of (drop (first_end bs) bs)
word_ends b [] = refl
word_ends b (c ∷ cs) = ends_at b c cs (space c) refl (word_ends c cs)

-- what a text says from its first byte on that is no space: its first word, if it has one
abbrev Begins : List ℕ → Type 0
Begins text = first_start text < length text → words_of text ≡ take (first_end (drop (first_start text) text)) (drop (first_start text) text) ∷ words_of (drop (first_end (drop (first_start text) text)) (drop (first_start text) text))

begins_more : (b : ℕ) (bs : List ℕ) (t : Bool) → space b ≡ t → Begins bs → Begins (b ∷ bs)
begins_more b bs true e rest inside =
    let further : first_start (b ∷ bs) ≡ suc (first_start bs) = rw e (one-add _) in
    rw (further, e) (rest (omega (arith, further)))
begins_more b bs false e rest inside =
    let here : first_start (b ∷ bs) ≡ 0 = rw e refl in
    let long : first_end (b ∷ bs) ≡ suc (first_end bs) = rw e (one-add _) in
    rw (here, long, e) (word_ends b bs)

begins : (text : List ℕ) → Begins text
begins [] inside = absurd (omega arith)
begins (b ∷ bs) inside = begins_more b bs (space b) refl (begins bs) inside

-- a text of spaces alone has no word
blank_more : (b : ℕ) (bs : List ℕ) (t : Bool) → space b ≡ t → (length bs ≤ first_start bs → words_of bs ≡ []) → length (b ∷ bs) ≤ first_start (b ∷ bs) → words_of (b ∷ bs) ≡ []
blank_more b bs true e rest past =
    let further : first_start (b ∷ bs) ≡ suc (first_start bs) = rw e (one-add _) in
    rw e (rest (omega (arith, further)))
blank_more b bs false e rest past =
    let here : first_start (b ∷ bs) ≡ 0 = rw e refl in
    absurd (omega (arith, here))

blank : (text : List ℕ) → length text ≤ first_start text → words_of text ≡ []
blank [] past = refl
blank (b ∷ bs) past = blank_more b bs (space b) refl (blank bs) past

pub no_word : (text : List ℕ) (t : Bool) → ltb (first_start text) (length text) ≡ t → None ≡ cond t (Some (first_start text)) None → words_of text ≡ []
no_word text true e none = clash cc
no_word text false e none = blank text (ltb-false _ _ e)

-- the first word is what stands from the first other byte to the space behind it
pub word_first : (text : List ℕ) (start n : ℕ) (after word behind : List ℕ) → Some start ≡ position (λ b. not (b == 32)) text → after ≡ drop start text → n ≡ first_end after → word ≡ take n after → behind ≡ drop n after → words_of text ≡ word ∷ words_of behind
word_first text start n after word behind some from long front back =
    let told = cond_some (ltb (first_start text) (length text)) (first_start text) start (sym some) in
    let from_start : after ≡ drop (first_start text) text = from ∙ ap (λ i. drop i text) (sym told.1) in
    let first = begins text (ltb-true _ _ told.0) in
    let first' : words_of text ≡ take (first_end after) after ∷ words_of (drop (first_end after) after) = subst (λ t. words_of text ≡ take (first_end t) t ∷ words_of (drop (first_end t) t)) (sym from_start) first in
    let front' : word ≡ take (first_end after) after = front ∙ ap (λ i. take i after) long in
    let back' : behind ≡ drop (first_end after) after = back ∙ ap (λ i. drop i after) long in
    first' ∙ ap (λ w. w ∷ words_of (drop (first_end after) after)) (sym front') ∙ ap (λ t. word ∷ words_of t) (sym back')

-- a place that was looked for, or the end
pub place_or_end : (n end : ℕ) (t : Bool) → n ≤ end → ltb n end ≡ t → unwrap_or (cond t (Some n) None) end ≡ n
place_or_end n end true within e = refl
place_or_end n end false within e = omega (arith, ltb-false n end e)
