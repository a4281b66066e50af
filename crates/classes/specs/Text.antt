-- What is printed of classes and of a refusal.
use Rattle.std.specs.Prelude.{ℕ, List, [], ◌∷◌, ◌++◌, codes, decimal}
use Rattle.classes.specs.declared.refusal.Classes.{Classes}

-- the four classes, vehicle first
abbrev pub classes_text : Classes → List ℕ
classes_text c =
    decimal c.vehicle ++ (codes " " ++ (decimal c.time ++ (codes " " ++ (decimal c.location ++ (codes " " ++ decimal c.user)))))

-- the number of a refusal, and each of its values after "by"
abbrev pub by_values : List ℕ → List ℕ
by_values [] = []
by_values (v ∷ vs) = codes " by " ++ (decimal v ++ by_values vs)

abbrev pub refusal_text : ℕ × List ℕ → List ℕ
refusal_text r = decimal r.0 ++ by_values r.1
