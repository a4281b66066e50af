-- Gaps. Combinations are tried in order, the user class fastest and the vehicle class slowest; the first that no live
-- line claims is the gap.
use Rattle.std.specs.Prelude.{◌≡◌, ℕ, zero, suc, ◌+◌, ◌<◌, Bool, false, cond, ◌||◌, ◌⊎◌, List, [], ◌∷◌, Some, None, Option}
use Rattle.std.specs.Option.{option_or}
use Rattle.std.specs.List.{fold}
use Rattle.classes.specs.declared.refusal.Classes.{Classes}
use Rattle.classes.specs.declared.refusal.Role.{Role}
use Rattle.lines.specs.declared.sets.ClassSet.{ClassSet}
use Rattle.lines.specs.declared.sets.Counts.{Counts}
use Rattle.lines.specs.declared.states.LineState.{LineState}
use Rattle.lines.specs.declared.states.LineState.TheVariants.{Free, Live, Withdrawn}
use Rattle.lines.specs.Sets.{has_class, union}
use Rattle.lines.specs.Lines.{Combination, set_of, state_claims}
use Rattle.lines.specs.Tables.{Claimed}

-- whether some live line claims the combination
abbrev pub claimed : List LineState → Classes → Bool
claimed [] k = false
claimed (s ∷ ss) k = state_claims k s || claimed ss k

-- live lines that have the class stay, every other number is as if free
abbrev pub kept : Role → ℕ → LineState → LineState
kept role class Free = Free
kept role class (Live l) = cond (has_class (set_of role l) class) (Live l) Free
kept role class (Withdrawn l) = Free

-- the users of a live line that has the location class
abbrev pub users_of : ℕ → LineState → ClassSet
users_of location Free = record { 0 = 0 }
users_of location (Live l) = cond (has_class l.locations location) l.users (record { 0 = 0 })
users_of location (Withdrawn l) = record { 0 = 0 }

-- those users and the users of all live lines that have the location class
abbrev pub users_with : ℕ → ClassSet → List LineState → ClassSet
users_with location users states = fold (λ found s. union found (users_of location s)) users states

-- the first that is found at one of n classes, from class c on
abbrev pub first_class_of : {A : Type 0} → (ℕ → Option A) → ℕ → ℕ → Option A
first_class_of find c zero = None
first_class_of find c (suc n) = option_or (find c) (first_class_of find (c + 1) n)

module _ (counts : Counts) (states : List LineState) where
  -- the combination, unless it is claimed
  abbrev pub gap_at : ℕ → ℕ → ℕ → ℕ → Option Classes
  gap_at v t l u = let k : Classes = record { vehicle = v; time = t; location = l; user = u } in cond (claimed states k) None (Some k)

  abbrev pub gap_in_location : ℕ → ℕ → ℕ → Option Classes
  gap_in_location v t l = first_class_of (gap_at v t l) 1 counts.users

  abbrev pub gap_in_time : ℕ → ℕ → Option Classes
  gap_in_time v t = first_class_of (gap_in_location v t) 1 counts.locations

  abbrev pub gap_in_vehicle : ℕ → Option Classes
  gap_in_vehicle v = first_class_of (gap_in_time v) 1 counts.times

  abbrev pub first_gap : Option Classes
  first_gap = first_class_of gap_in_vehicle 1 counts.vehicles

-- a combination comes before another: the first class in which they differ is lower
abbrev pub Before : Classes → Classes → Type 0
Before j k =
    (j.vehicle < k.vehicle)
    ⊎ ((j.vehicle ≡ k.vehicle) × ((j.time < k.time)
    ⊎ ((j.time ≡ k.time) × ((j.location < k.location)
    ⊎ ((j.location ≡ k.location) × (j.user < k.user))))))

module _ (counts : Counts) (states : List LineState) where
  -- every combination is claimed
  abbrev pub NoGap : Type 0
  NoGap = (k : Classes) → Combination counts k → Claimed states k

  -- the combination is unclaimed, and every earlier one is claimed
  pub record FirstGap (k : Classes) : Type 0 where
    pub combination : Combination counts k
    pub unclaimed : Claimed states k → ⊥
    pub earlier : (j : Classes) → Combination counts j → Before j k → Claimed states j
