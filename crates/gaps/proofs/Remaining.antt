-- The search for the first gap, class by class: what remains to be searched at each point of the four loops.
use Rattle.std.proofs.Common.{◌≡◌, ℕ, suc, ◌+◌, ◌-◌, ◌≤◌, Bool, true, false, cond, ◌||◌, List, [], ◌∷◌, map, Some, None, Option, sym, refl, ap, ◌∙◌, arith}
use Rattle.std.specs.Option.{option_or}
use Rattle.std.proofs.Math.Bool.{or_assoc, or-false}
use Rattle.classes.specs.declared.refusal.Classes.{Classes}
use Rattle.classes.specs.declared.refusal.Role.TheVariants.{Vehicle, Time}
use Rattle.lines.specs.declared.sets.ClassSet.{ClassSet}
use Rattle.lines.specs.declared.sets.Counts.{Counts}
use Rattle.lines.specs.declared.states.LineState.{LineState}
use Rattle.lines.specs.declared.states.LineState.TheVariants.{Free, Live, Withdrawn}
use Rattle.lines.specs.Sets.{has_class, union}
use Rattle.lines.specs.Lines.{state_claims}
use Rattle.gaps.specs.Gaps.{claimed, kept, users_of, users_with, first_class_of, gap_at, gap_in_location, gap_in_time, gap_in_vehicle}
use Rattle.lines.proofs.Bits.{has_union, has_none}

option_or_assoc : {A : Type 0} (x y z : Option A) → option_or (option_or x y) z ≡ option_or x (option_or y z)
option_or_assoc (Some x) y z = refl
option_or_assoc None y z = refl

-- classes from c to n are still to be searched, and then what comes after them
abbrev pub remaining : {A : Type 0} → (ℕ → Option A) → ℕ → ℕ → Option A → Option A
remaining find n c after = option_or (first_class_of find c (n + 1 - c)) after

module _ {A : Type 0} (find : ℕ → Option A) (n : ℕ) (after : Option A) where
  pub remaining_all : remaining find n 1 after ≡ option_or (first_class_of find 1 n) after
  remaining_all = let e : n + 1 - 1 ≡ n = omega arith in rw e

  module _ (c : ℕ) where
    pub remaining_more : c ≤ n → remaining find n c after ≡ option_or (find c) (remaining find n (c + 1) after)
    remaining_more le =
        let now_left : n + 1 - c ≡ suc (n - c) = omega arith in
        let then_left : n + 1 - (c + 1) ≡ n - c = omega arith in
        rw (now_left, then_left) (option_or_assoc (find c) (first_class_of find (c + 1) (n - c)) after)

module _ (counts : Counts) (states : List LineState) where
  abbrev pub from_vehicle : ℕ → Option Classes
  from_vehicle v = remaining (gap_in_vehicle counts states) counts.vehicles v None

  abbrev pub from_time : ℕ → ℕ → Option Classes
  from_time v t = remaining (gap_in_time counts states v) counts.times t (from_vehicle (v + 1))

  abbrev pub from_location : ℕ → ℕ → ℕ → Option Classes
  from_location v t l = remaining (gap_in_location counts states v t) counts.locations l (from_time v (t + 1))

  abbrev pub from_user : ℕ → ℕ → ℕ → ℕ → Option Classes
  from_user v t l u = remaining (gap_at counts states v t l) counts.users u (from_location v t (l + 1))

  pub into_vehicle : (v : ℕ) → v ≤ counts.vehicles → from_vehicle v ≡ from_time v 1
  into_vehicle v le =
      remaining_more (gap_in_vehicle counts states) counts.vehicles None v le
      ∙ sym (remaining_all (gap_in_time counts states v) counts.times (from_vehicle (v + 1)))

  pub into_time : (v t : ℕ) → t ≤ counts.times → from_time v t ≡ from_location v t 1
  into_time v t le =
      remaining_more (gap_in_time counts states v) counts.times (from_vehicle (v + 1)) t le
      ∙ sym (remaining_all (gap_in_location counts states v t) counts.locations (from_time v (t + 1)))

  pub into_location : (v t l : ℕ) → l ≤ counts.locations → from_location v t l ≡ from_user v t l 1
  into_location v t l le =
      remaining_more (gap_in_location counts states v t) counts.locations (from_time v (t + 1)) l le
      ∙ sym (remaining_all (gap_at counts states v t l) counts.users (from_location v t (l + 1)))

  -- the last class of a combination: it is the gap, or the search goes on
  module _ (v t l u : ℕ) (le : u ≤ counts.users) where
    gap_here : (b : Bool) → claimed states (record { vehicle = v; time = t; location = l; user = u }) ≡ b → from_user v t l u ≡ option_or (cond b None (Some (record { vehicle = v; time = t; location = l; user = u }))) (from_user v t l (u + 1))
    gap_here b e = remaining_more (gap_at counts states v t l) counts.users (from_location v t (l + 1)) u le ∙ rw e

    pub found_user : claimed states (record { vehicle = v; time = t; location = l; user = u }) ≡ false → from_user v t l u ≡ Some (record { vehicle = v; time = t; location = l; user = u })
    found_user e = gap_here false e

    pub next_user : claimed states (record { vehicle = v; time = t; location = l; user = u }) ≡ true → from_user v t l u ≡ from_user v t l (u + 1)
    next_user e = gap_here true e

-- the users that are left when the lines are narrowed to a vehicle, a time and a location class
no_user : (u : ℕ) → has_class (record { 0 = 0 }) u ≡ false
no_user u = has_none (record { 0 = 0 }) u refl

module _ (k : Classes) where
  left_of : LineState → ClassSet
  left_of s = users_of k.location (kept Time k.time (kept Vehicle k.vehicle s))

  left_claims : (s : LineState) → has_class (left_of s) k.user ≡ state_claims k s
  unfolding left_of
  left_claims Free = no_user k.user
  left_claims (Withdrawn l) = no_user k.user
  left_claims (Live l) = by (has_class l.vehicles k.vehicle) (has_class l.times k.time) (has_class l.locations k.location) refl refl refl
    where
      by : (p q r : Bool) → has_class l.vehicles k.vehicle ≡ p → has_class l.times k.time ≡ q → has_class l.locations k.location ≡ r → has_class (left_of (Live l)) k.user ≡ state_claims k (Live l)
      by false q r ep eq er = rw ep (no_user k.user)
      by true false r ep eq er = rw (ep, eq) (no_user k.user)
      by true true false ep eq er = rw (ep, eq, er) (no_user k.user)
      by true true true ep eq er = rw (ep, eq, er) refl

  users_claimed : (users : ClassSet) (states : List LineState) → has_class (users_with k.location users (map (kept Time k.time) (map (kept Vehicle k.vehicle) states))) k.user ≡ (has_class users k.user || claimed states k)
  unfolding left_of
  users_claimed users [] = sym (or-false (has_class users k.user))
  users_claimed users (s ∷ ss) =
      users_claimed (union users (left_of s)) ss
      ∙ ap (λ b. b || claimed ss k) (has_union users (left_of s) k.user ∙ ap (λ b. has_class users k.user || b) (left_claims s))
      ∙ or_assoc (has_class users k.user) (state_claims k s) (claimed ss k)

  -- a user class is left exactly when some live line claims the combination
  pub left_claimed : (states : List LineState) → has_class (users_with k.location (record { 0 = 0 }) (map (kept Time k.time) (map (kept Vehicle k.vehicle) states))) k.user ≡ claimed states k
  left_claimed states = users_claimed (record { 0 = 0 }) states ∙ ap (λ b. b || claimed states k) (no_user k.user)

-- the same of the tables that the search makes on its way
pub narrowed_claimed : (v t l u : ℕ) (states of_vehicle of_time : List LineState) (users : ClassSet) → of_vehicle ≡ map (kept Vehicle v) states → of_time ≡ map (kept Time t) of_vehicle → users ≡ users_with l (record { 0 = 0 }) of_time → has_class users u ≡ claimed states (record { vehicle = v; time = t; location = l; user = u })
narrowed_claimed v t l u states of_vehicle of_time users ev et eu =
    rw (eu, et, ev) (left_claimed (record { vehicle = v; time = t; location = l; user = u }) states)
