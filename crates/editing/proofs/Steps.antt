-- The calls of steps, each with its place.
use Rattle.std.proofs.Common.{◌≡◌, ℕ, suc, ◌+◌, List, [], ◌∷◌, map, length, slice_index_or, refl, ap, Bor}
use Rattle.std.specs.List.{enumerate_from}
use Rattle.law.specs.Histories.{Asked}
use Rattle.script.specs.declared.scripts.Step.{Step}
use Rattle.script.specs.Fields.{Word}
use Rattle.script.specs.Scripts.{plain_step}
use Rattle.editing.specs.Calls.{command_call, calls_from}

-- the call of a step at a place
abbrev pub call_at : List (List ℕ) → ℕ × Step (Bor Word) → Asked
call_at sheets p = command_call (slice_index_or sheets p.0 []) (plain_step p.1).command

-- the calls of the steps, each with its place
pub placed_calls : (i : ℕ) (sheets : List (List ℕ)) (steps : List (Step (Bor Word))) → map (call_at sheets) (enumerate_from i steps) ≡ calls_from i sheets (map plain_step steps)
placed_calls i sheets [] = refl
placed_calls i sheets (s ∷ rest) = ap (λ calls. call_at sheets (i, s) ∷ calls) (placed_calls (i + 1) sheets rest)

-- as many calls as steps
pub length_calls : (i : ℕ) (sheets : List (List ℕ)) (steps : List (Step (Bor Word))) → length (calls_from i sheets (map plain_step steps)) ≡ length steps
length_calls i sheets [] = refl
length_calls i sheets (s ∷ rest) = ap suc (length_calls (i + 1) sheets rest)
