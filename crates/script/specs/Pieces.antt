-- A text cut at a byte. There is one piece more than separators, and pieces may be empty; words are the pieces that are not.
use Rattle.std.specs.Prelude.{ℕ, List, [], ◌∷◌, ◌==◌}
use Rattle.std.specs.List.{slice_split}

-- the pieces between the separators; the library's `slice_split` cuts a list at each item that passes a test
abbrev pub pieces : ℕ → List ℕ → List (List ℕ)
pieces separator text = slice_split (λ b. b == separator) text

-- the pieces that are not empty
abbrev pub filled : List (List ℕ) → List (List ℕ)
filled [] = []
filled ([] ∷ ps) = filled ps
filled ((b ∷ bs) ∷ ps) = (b ∷ bs) ∷ filled ps

-- the words of a line: only spaces stand between them
abbrev pub words_of : List ℕ → List (List ℕ)
words_of line = filled (pieces 32 line)
