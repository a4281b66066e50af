-- Contracts as words: up to eight visible ASCII characters, with spaces behind.
use Rattle.std.specs.Prelude.{ℕ, ◌-◌, Bool, cond, ◌&&◌, List, ◌++◌, length, replicate, Some, None, Option, nat_le}
use Rattle.std.specs.List.{list_all}

-- a character from "!" to "~"
abbrev pub is_visible : ℕ → Bool
is_visible b = nat_le 33 b && nat_le b 126

-- every byte is such a character
abbrev pub visible_only : List ℕ → Bool
visible_only w = list_all is_visible w

-- eight bytes: the text, and then spaces
abbrev pub padded : List ℕ → List ℕ
padded w = w ++ replicate (8 - length w) 32

-- the contract that a word writes
abbrev pub contract_of : List ℕ → Option (List ℕ)
contract_of w = cond (nat_le (length w) 8 && visible_only w) (Some (padded w)) None
