-- The line that tells an answer: the line's number, then what was answered, or the refusal by its number and values.
use Rattle.std.specs.Prelude.{ℕ, List, ◌++◌, length, codes, decimal}
use Rattle.contents.specs.Text.{refusal_text}
use Rattle.charging.specs.Text.{price_text}
use Rattle.law.specs.Histories.{Told, done, at_version, at_price, wrote, refused}

-- what was answered
abbrev pub told_text : Told → List ℕ
told_text done = codes "done"
told_text (at_version v) = codes "version " ++ decimal v
told_text (at_price p) = price_text p
told_text (wrote bytes) = codes "wrote " ++ (decimal (length bytes) ++ codes " bytes")
told_text (refused r) = codes "refused " ++ refusal_text r

-- the answer to the call on the line with this number
abbrev pub line_text : ℕ → Told → List ℕ
line_text n t = decimal n ++ (codes " " ++ told_text t)

-- a script of calls that cannot be read, by its first line at fault
abbrev pub script_refused_text : ℕ → List ℕ
script_refused_text line = codes "script refused at line " ++ decimal line
