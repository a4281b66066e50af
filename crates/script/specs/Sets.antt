-- Class sets as words: "-" is the empty set; otherwise items stand between commas, each a class or the first and last of a range.
use Rattle.std.specs.Prelude.{◌≡◌, ℕ, zero, suc, ◌+◌, ◌-◌, ◌^◌, Bool, false, cond, ◌&&◌, ◌||◌, List, [], ◌∷◌, Some, None, Option, nat_le}
use Rattle.std.specs.Str.{bytes_eq}
use Rattle.lines.specs.declared.sets.ClassSet.{ClassSet}
use Rattle.lines.specs.Sets.{has_class, union}
use Rattle.script.specs.Numbers.{number_of}
use Rattle.script.specs.Pieces.{pieces}

-- the empty set
abbrev pub no_classes : ClassSet
no_classes = record { 0 = 0 }

-- the set of one class
abbrev pub single : ℕ → ClassSet
single c = record { 0 = 2 ^ (c - 1) }

-- so many classes, from this one on
abbrev pub run : ℕ → ℕ → ClassSet
run low zero = no_classes
run low (suc n) = union (run low n) (single (low + n))

-- the number, if it is not 0
abbrev pub from_one : Option ℕ → Option ℕ
from_one None = None
from_one (Some n) = cond (nat_le 1 n) (Some n) None

-- a class is from 1 to 64
abbrev pub class_of : List ℕ → Option ℕ
class_of w = from_one (number_of 64 w)

-- a first and a last class, if the last is not below the first
abbrev pub ends_of : Option ℕ → Option ℕ → Option (ℕ × ℕ)
ends_of None h = None
ends_of (Some l) None = None
ends_of (Some l) (Some h) = cond (nat_le l h) (Some (l, h)) None

-- the ends of a range, or a class alone
abbrev pub ends_between : List (List ℕ) → Option (ℕ × ℕ)
ends_between [] = None
ends_between (a ∷ []) = ends_of (class_of a) (class_of a)
ends_between (a ∷ b ∷ []) = ends_of (class_of a) (class_of b)
ends_between (a ∷ b ∷ c ∷ ds) = None

-- the first and the last class of an item
abbrev pub item_ends : List ℕ → Option (ℕ × ℕ)
item_ends w = ends_between (pieces 45 w)

-- the classes from a first to a last
abbrev pub range_of : Option (ℕ × ℕ) → Option ClassSet
range_of None = None
range_of (Some p) = Some (run p.0 (p.1 + 1 - p.0))

-- the classes of an item
abbrev pub item_of : List ℕ → Option ClassSet
item_of w = range_of (item_ends w)

-- the union of two sets, if both can be read
abbrev pub both : Option ClassSet → Option ClassSet → Option ClassSet
both None t = None
both (Some s) None = None
both (Some s) (Some t) = Some (union s t)

-- the union of a set with the sets of items
abbrev pub union_from : Option ClassSet → List (List ℕ) → Option ClassSet
union_from s [] = s
union_from s (p ∷ ps) = union_from (both s (item_of p)) ps

-- the items of a word, of which "-" has none
abbrev pub items_of : List ℕ → List (List ℕ)
items_of w = cond (bytes_eq w (45 ∷ [])) [] (pieces 44 w)

-- the class set that a word writes
abbrev pub set_of : List ℕ → Option ClassSet
set_of w = union_from (Some no_classes) (items_of w)

-- a class lies from a first to a last
abbrev pub between_ends : Option (ℕ × ℕ) → ℕ → Bool
between_ends None c = false
between_ends (Some p) c = nat_le p.0 c && nat_le c p.1

-- some item names the class
abbrev pub named : List (List ℕ) → ℕ → Bool
named [] c = false
named (p ∷ ps) c = between_ends (item_ends p) c || named ps c

-- what the set of a word means: its classes are those that an item names
abbrev pub Named : List ℕ → ClassSet → Type 0
Named w s = (c : ℕ) → has_class s c ≡ named (items_of w) c
