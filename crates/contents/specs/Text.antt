-- What is printed of a refusal, by its number and its values; 20 is that of a sheet's record.
use Rattle.std.specs.Prelude.{ℕ, Bool, cond, ◌||◌, List, [], ◌∷◌, ◌++◌, codes, decimal, ◌==◌}
use Rattle.contents.specs.Calls.{Refused}

-- one number or more, with spaces between them
abbrev pub spaced : ℕ → List ℕ → List ℕ
spaced v [] = decimal v
spaced v (w ∷ ws) = decimal v ++ (codes " " ++ spaced w ws)

-- a place, and the refusal that is the cause there
abbrev pub caused : ℕ → List ℕ → List ℕ
caused place [] = decimal place
caused place (w ∷ ws) = decimal place ++ (codes " because " ++ spaced w ws)

-- the refusals by a line or by a determinant; any other is at a combination or at a place of a sheet
abbrev pub refuses_by : ℕ → Bool
refuses_by n = n == 11 || (n == 14 || n == 16)

-- the values of the refusal with this number
abbrev pub values_text : ℕ → List ℕ → List ℕ
values_text n [] = []
values_text n (v ∷ vs) = cond (refuses_by n) (codes " by " ++ spaced v vs) (codes " at " ++ cond (n == 20) (caused v vs) (spaced v vs))

-- "19 at 7"
abbrev pub refusal_text : Refused → List ℕ
refusal_text r = decimal r.0 ++ values_text r.0 r.1
