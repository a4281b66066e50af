-- The two keys of a usage, and their orders: `upto a b` says that a is not after b.
use Rattle.std.specs.Prelude.{ℕ, Bool, true, false, cond, List, [], ◌∷◌, Some, None, Option, ◌==◌, nat_le, nat_lt}
use Rattle.std.specs.Option.{unwrap_or}
use Rattle.classes.specs.declared.keys.ContractKey.{ContractKey}
use Rattle.classes.specs.declared.keys.ObjectKey.{ObjectKey}
use Rattle.classes.specs.declared.usage.Usage.{Usage}

-- by the partition, and by the object where the partitions are equal
abbrev pub object_upto : ObjectKey → ObjectKey → Bool
object_upto a b = cond (a.partition == b.partition) (nat_le a.object b.object) (nat_lt a.partition b.partition)

abbrev pub object_key : Usage → ObjectKey
object_key u = record { partition = u.partition; object = u.object }

-- two bytes decide where they differ
abbrev pub byte_before : ℕ → ℕ → Option Bool
byte_before x y = cond (x == y) None (Some (nat_lt x y))

-- the first byte that differs decides
abbrev pub bytes_upto : List ℕ → List ℕ → Bool
bytes_upto [] ys = true
bytes_upto (x ∷ xs) [] = false
bytes_upto (x ∷ xs) (y ∷ ys) = unwrap_or (byte_before x y) (bytes_upto xs ys)

abbrev pub contract_upto : ContractKey → ContractKey → Bool
contract_upto a b = bytes_upto a.text b.text

abbrev pub contract_key : Usage → ContractKey
contract_key u = record { text = u.contract }
