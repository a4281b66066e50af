-- Calls and their answers, side by side, as a history.
use Rattle.std.specs.Prelude.{List, [], ◌∷◌}
use Rattle.law.specs.Histories.{Asked, Told, History}

-- each call with its answer
abbrev pub entries : List Asked → List Told → History
entries [] answers = []
entries (a ∷ calls) [] = []
entries (a ∷ calls) (t ∷ answers) = record { asked = a; told = t } ∷ entries calls answers
