-- Sets of classes. A set is a number of 64 bits, and class c, counted from 1, is in it when bit c - 1 is set.
use Rattle.std.specs.Prelude.{◌≡◌, ℕ, ◌-◌, ◌^◌, Bool, true, not, ◌&&◌, ◌==◌, bit_and, bit_or, nat_le, nat_lt}
use Rattle.classes.specs.Times.{has_bit}
use Rattle.lines.specs.declared.sets.ClassSet.{ClassSet}
use Rattle.lines.specs.declared.sets.Counts.{Counts}

abbrev pub has_class : ClassSet → ℕ → Bool
has_class s c = nat_le 1 c && nat_le c 64 && has_bit s.0 (c - 1)

-- the set is not empty, and has no class above the count
abbrev pub set_fits : ℕ → ClassSet → Bool
set_fits count s = nat_lt 0 s.0 && nat_lt s.0 (2 ^ count)

-- some bit is set in both
abbrev pub sets_meet : ClassSet → ClassSet → Bool
sets_meet a b = not (bit_and a.0 b.0 == 0)

abbrev pub union : ClassSet → ClassSet → ClassSet
union a b = record { 0 = bit_or a.0 b.0 }

-- a class that is in both sets
pub record ClassInBoth (a b : ClassSet) : Type 0 where
  pub shared : ℕ
  pub in_first : has_class a shared ≡ true
  pub in_second : has_class b shared ≡ true

-- a count of classes is from 1 to 64
abbrev pub count_in_range : ℕ → Bool
count_in_range n = nat_le 1 n && nat_le n 64

abbrev pub counts_in_range : Counts → Bool
counts_in_range c = count_in_range c.vehicles && count_in_range c.times && count_in_range c.locations && count_in_range c.users
