-- A script line by line: what the lines that are left still decide.
use Rattle.std.proofs.Common.{◌≡◌, ℕ, ◌+◌, ◌<◌, ◌≤◌, true, false, cond, List, [], ◌∷◌, ◌++◌, map, length, get_or, drop, Some, None, Ok, Err, sym, refl, ap, ◌∙◌, append_assoc, append-nil, Bor, arith}
use Rattle.std.proofs.lemmas.List.{drop_more, drop_all, map_push}
use Rattle.std.proofs.lemmas.List.FromFn.{get_or-enumerate_from, length-enumerate_from}
use Rattle.std.specs.List.{enumerate_from}
use Rattle.script.specs.declared.commands.Command.{Command}
use Rattle.script.specs.declared.scripts.ScriptError.{ScriptError}
use Rattle.script.specs.declared.scripts.ScriptError.TheVariants.{Refused, NoMemory}
use Rattle.script.specs.declared.scripts.Step.{Step}
use Rattle.script.specs.Commands.{with_names, command_of, passed_over}
use Rattle.script.specs.Fields.{Word}
use Rattle.script.specs.Pieces.{pieces}
use Rattle.script.specs.Scripts.{is_sound, first_unsound, line_steps, steps_from, unless_refused, script_of, plain_step, Rejects, Failed}

-- the lines that are left after n of them: what they decide together with these steps
pub record Sofar (text : List ℕ) (n : ℕ) (steps : List (Step Word)) : Type 0 where
  pub unsound : first_unsound (n + 1) (drop n (pieces 10 text)) ≡ first_unsound 1 (pieces 10 text)
  pub given : steps ++ steps_from (n + 1) (drop n (pieces 10 text)) ≡ steps_from 1 (pieces 10 text)

pub none_yet : (text : List ℕ) (steps : List (Step Word)) → steps ≡ [] → Sofar text 0 steps
none_yet text steps none = record { unsound = refl; given = ap (λ s. s ++ steps_from 1 (pieces 10 text)) none }

-- a line that `enumerate` gave as number i, after n others
abbrev pub NthLine : List ℕ → ℕ → ℕ → List ℕ → Type 0
NthLine text n i line = (n < length (enumerate_from 0 (pieces 10 text))) × ((i, line) ≡ get_or (enumerate_from 0 (pieces 10 text)) n (i, line))

-- its number is its place
nth_line : (ps : List (List ℕ)) (n i : ℕ) (line : List ℕ) → (n < length (enumerate_from 0 ps)) × ((i, line) ≡ get_or (enumerate_from 0 ps) n (i, line)) → (i ≡ n) × (n < length ps) × (line ≡ get_or ps n line)
nth_line ps n i line next =
    let within : n < length ps = omega (arith, next.0, length-enumerate_from 0 ps) in
    let told : (i, line) ≡ (0 + n, get_or ps n line) = next.1 ∙ get_or-enumerate_from 0 ps n (i, line) within in
    (ap (λ p. p.0) told ∙ omega arith, within, ap (λ p. p.1) told)

module _ (text : List ℕ) (n i : ℕ) (line : List ℕ) (given : NthLine text n i line) where
  next : (i ≡ n) × (n < length (pieces 10 text)) × (line ≡ get_or (pieces 10 text) n line)
  next = nth_line (pieces 10 text) n i line given

  line_next : drop n (pieces 10 text) ≡ line ∷ drop (n + 1) (pieces 10 text)
  line_next = drop_more (pieces 10 text) n line next.1 ∙ ap (λ l. l ∷ drop (n + 1) (pieces 10 text)) (sym next.2)

  pub one_more : (steps more : List (Step Word)) → Sofar text n steps → (is_sound line ≡ true) × (more ≡ steps ++ line_steps (i + 1) line) → Sofar text (n + 1) more
  one_more steps more old (sound, put) = record {
    unsound = sym (ap (first_unsound (n + 1)) line_next ∙ ap (λ t. cond t (first_unsound (n + 1 + 1) (drop (n + 1) (pieces 10 text))) (Some (n + 1))) sound) ∙ old.unsound;
    given = ap (λ s. s ++ steps_from (n + 1 + 1) (drop (n + 1) (pieces 10 text))) (put ∙ ap (λ k. steps ++ line_steps (k + 1) line) next.0) ∙ append_assoc steps (line_steps (n + 1) line) (steps_from (n + 1 + 1) (drop (n + 1) (pieces 10 text))) ∙ ap (λ ls. steps ++ steps_from (n + 1) ls) (sym line_next) ∙ old.given;
  }

  pub refused_here : (steps : List (Step Word)) → Sofar text n steps → is_sound line ≡ false → Err (n + 1) ≡ script_of text
  refused_here steps old unsound =
      let here : Some (n + 1) ≡ first_unsound 1 (pieces 10 text) = sym (ap (first_unsound (n + 1)) line_next ∙ ap (λ t. cond t (first_unsound (n + 1 + 1) (drop (n + 1) (pieces 10 text))) (Some (n + 1))) unsound) ∙ old.unsound in
      ap (λ o. unless_refused o (steps_from 1 (pieces 10 text))) here

  -- what a line that is rejected tells of the script
  pub error_told : (steps : List (Step Word)) (e : ScriptError) → Sofar text n steps → Rejects (i + 1) line e → Failed e (script_of text)
  error_told steps (Refused k) old (unsound, here) = ap Err (here ∙ ap (λ k. k + 1) next.0) ∙ refused_here steps old unsound
  error_told steps NoMemory old none = tt

pub all_read : (text : List ℕ) (n : ℕ) (steps : List (Step Word)) → Sofar text n steps → length (pieces 10 text) ≤ n → Ok steps ≡ script_of text
all_read text n steps old past =
    let none : drop n (pieces 10 text) ≡ [] = drop_all n (pieces 10 text) past in
    let sound : None ≡ first_unsound 1 (pieces 10 text) = sym (ap (first_unsound (n + 1)) none) ∙ old.unsound in
    let given : steps ≡ steps_from 1 (pieces 10 text) = sym (ap (λ ls. steps ++ steps_from (n + 1) ls) none ∙ append-nil steps) ∙ old.given in
    ap Ok given ∙ ap (λ o. unless_refused o (steps_from 1 (pieces 10 text))) sound

-- one step more
pub step_put : (before after : List (Step (Bor Word))) (n : ℕ) (line : List ℕ) (command : Command (Bor Word)) → false ≡ passed_over line → Some (with_names (λ x. x.now) command) ≡ command_of line → after ≡ before ++ record { line = n; command = command } ∷ [] → (is_sound line ≡ true) × (map plain_step after ≡ map plain_step before ++ line_steps n line)
step_put before after n line command kept is put =
    let added : line_steps n line ≡ record { line = n; command = with_names (λ x. x.now) command } ∷ [] = rw (sym kept, sym is) refl in
    (rw (sym kept, sym is) refl, ap (map plain_step) put ∙ map_push plain_step before _ ∙ ap (λ s. map plain_step before ++ s) (sym added))
