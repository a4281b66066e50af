-- What the first gap means: it is unclaimed, and every earlier combination is claimed.
use Rattle.std.proofs.Common.{◌≡◌, ℕ, zero, suc, ◌+◌, ◌-◌, ◌<◌, ◌≤◌, Bool, true, false, List, [], ◌∷◌, get_or, Some, None, Option, sym, refl, ◌∙◌, subst, ⊎_elim, arith, MatchOption}
use Rattle.std.proofs.lemmas.Bool.{both_ways, cases_order, cases_eq, eq-eqb, ne_eqb, or_cases, or_left, or_right, false≢true}
use Rattle.classes.specs.declared.refusal.Classes.{Classes}
use Rattle.classes.proofs.Clash.{clash}
use Rattle.lines.specs.declared.sets.Counts.{Counts}
use Rattle.lines.specs.declared.states.Line.{Line}
use Rattle.lines.specs.declared.states.LineState.{LineState}
use Rattle.lines.specs.declared.states.LineState.TheVariants.{Free, Live}
use Rattle.lines.specs.Lines.{Combination, claims, state_claims}
use Rattle.lines.specs.Tables.{Claimed}
use Rattle.lines.proofs.Numbers.{live_line}
use Rattle.gaps.specs.Gaps.{claimed, first_class_of, gap_at, gap_in_location, gap_in_time, gap_in_vehicle, first_gap, Before, NoGap, FirstGap}

-- the test for a claim, and the claim
claim_place : (k : Classes) (states : List LineState) → claimed states k ≡ true → (i : ℕ) × (l : Line) × (get_or states i Free ≡ Live l) × (claims l k ≡ true)
claim_place k [] h = absurd (false≢true h)
claim_place k (s ∷ ss) h =
    ⊎_elim
    (λ here. let l = live_line k s here in (0, l.0, l.1, l.2))
    (λ there. let l = claim_place k ss there in (suc l.0, l.1, l.2, l.3))
    (or_cases (state_claims k s) (claimed ss k) h)

place_claims : (k : Classes) (states : List LineState) (i : ℕ) (l : Line) → get_or states i Free ≡ Live l → claims l k ≡ true → claimed states k ≡ true
place_claims k [] i l e h = clash cc
place_claims k (s ∷ ss) zero l e h = or_left (state_claims k s) (claimed ss k) (rw e h)
place_claims k (s ∷ ss) (suc i) l e h = or_right (state_claims k s) (claimed ss k) (place_claims k ss i l e h)

pub claimed_true : (k : Classes) (states : List LineState) → claimed states k ≡ true → Claimed states k
claimed_true k states h =
    let found = claim_place k states h in
    let ne : suc found.0 ≡ 0 → ⊥ = λ e. omega (arith, e) in
    let same : suc found.0 - 1 ≡ found.0 = omega arith in
    record { number = suc found.0; line = found.1; live = rw (ne_eqb (suc found.0) 0 ne, same) found.2; claimed = found.3 }

pub claimed_from : (k : Classes) (states : List LineState) → Claimed states k → claimed states k ≡ true
claimed_from k states c =
    let live = c.live in
    ⊎_elim
    (λ e. absurd (let none : Free ≡ Live c.line = rw (eq-eqb c.number 0 e) at live in clash cc))
    (λ ne. place_claims k states (c.number - 1) c.line (rw (ne_eqb c.number 0 ne) at live) c.claimed)
    (cases_eq c.number 0)

-- what a search over classes finds
module _ {A : Type 0} (find : ℕ → Option A) where
  none_from : (c n : ℕ) → first_class_of find c n ≡ None → (e : ℕ) → c ≤ e → e < c + n → find e ≡ None
  none_from c zero h e low high = absurd (omega arith)
  none_from c (suc n) h e low high = by (find c) refl (none_from (c + 1) n)
    where
      by : (o : Option A) → find c ≡ o → (first_class_of find (c + 1) n ≡ None → (e : ℕ) → c + 1 ≤ e → e < c + 1 + n → find e ≡ None) → find e ≡ None
      by (Some x) at_c rest = absurd (let no : Some x ≡ None = rw at_c at h in clash cc)
      by None at_c rest =
          ⊎_elim
          (λ same. rw same at_c)
          (⊎_elim (λ below. absurd (omega arith)) (λ above. rest (rw at_c at h) e (omega arith) (omega arith)))
          (cases_order e c)

  -- found at a class, and at none before it
  pub record FoundFrom (c n : ℕ) (x : A) : Type 0 where
    pub class : ℕ
    pub low : c ≤ class
    pub high : class < c + n
    pub found : find class ≡ Some x
    pub before : (e : ℕ) → c ≤ e → e < class → find e ≡ None

  some_from : (c n : ℕ) (x : A) → first_class_of find c n ≡ Some x → FoundFrom c n x
  some_from c zero x h = clash cc
  some_from c (suc n) x h = by (find c) refl (some_from (c + 1) n x)
    where
      by : (o : Option A) → find c ≡ o → (first_class_of find (c + 1) n ≡ Some x → FoundFrom (c + 1) n x) → FoundFrom c (suc n) x
      by (Some y) at_c rest = record { class = c; low = omega arith; high = omega arith; found = at_c ∙ (rw at_c at h); before = λ e low high. absurd (omega arith) }
      by None at_c rest =
          let next = rest (rw at_c at h) in
          record {
            class = next.class;
            low = omega (arith, next.low);
            high = omega (arith, next.high);
            found = next.found;
            before = λ e low high.
                ⊎_elim
                (λ same. rw same at_c)
                (⊎_elim (λ below. absurd (omega arith)) (λ above. next.before e (omega arith) high))
                (cases_order e c);
          }

module _ (counts : Counts) (states : List LineState) where
  here : ℕ → ℕ → ℕ → ℕ → Classes
  here v t l u = record { vehicle = v; time = t; location = l; user = u }

  no_gap_at : (v t l u : ℕ) → gap_at counts states v t l u ≡ None → claimed states (here v t l u) ≡ true
  unfolding here
  no_gap_at v t l u h = by (claimed states (here v t l u)) refl
    where
      by : (b : Bool) → claimed states (here v t l u) ≡ b → claimed states (here v t l u) ≡ true
      by true e = e
      by false e = absurd (let no : Some (here v t l u) ≡ None = rw e at h in clash cc)

  gap_found_at : (v t l u : ℕ) (k : Classes) → gap_at counts states v t l u ≡ Some k → (k ≡ here v t l u) × (claimed states k ≡ false)
  unfolding here
  gap_found_at v t l u k h = by (claimed states (here v t l u)) refl
    where
      by : (b : Bool) → claimed states (here v t l u) ≡ b → (k ≡ here v t l u) × (claimed states k ≡ false)
      by true e = absurd (let no : None ≡ Some k = rw e at h in clash cc)
      by false e = let same : k ≡ here v t l u = let some : Some (here v t l u) ≡ Some k = rw e at h in cc in (same, rw same e)

  -- every combination that begins with these classes is claimed
  location_claimed : (v t l : ℕ) → gap_in_location counts states v t l ≡ None → (u : ℕ) → 1 ≤ u → u ≤ counts.users → claimed states (here v t l u) ≡ true
  location_claimed v t l h u low high = no_gap_at v t l u (none_from (gap_at counts states v t l) 1 counts.users h u low (omega arith))

  time_claimed : (v t : ℕ) → gap_in_time counts states v t ≡ None → (l u : ℕ) → 1 ≤ l → l ≤ counts.locations → 1 ≤ u → u ≤ counts.users → claimed states (here v t l u) ≡ true
  time_claimed v t h l u low high = location_claimed v t l (none_from (gap_in_location counts states v t) 1 counts.locations h l low (omega arith)) u

  vehicle_claimed : (v : ℕ) → gap_in_vehicle counts states v ≡ None → (t l u : ℕ) → 1 ≤ t → t ≤ counts.times → 1 ≤ l → l ≤ counts.locations → 1 ≤ u → u ≤ counts.users → claimed states (here v t l u) ≡ true
  vehicle_claimed v h t l u low high = time_claimed v t (none_from (gap_in_time counts states v) 1 counts.times h t low (omega arith)) l u

  pub no_gap : first_gap counts states ≡ None → NoGap counts states
  unfolding here
  no_gap h k c =
      claimed_true k states
      (vehicle_claimed k.vehicle (none_from (gap_in_vehicle counts states) 1 counts.vehicles h k.vehicle c.vehicle_low (omega (arith, c.vehicle_high)))
      k.time k.location k.user c.time_low c.time_high c.location_low c.location_high c.user_low c.user_high)

  module _ (k : Classes) (h : first_gap counts states ≡ Some k) where
    v : FoundFrom (gap_in_vehicle counts states) 1 counts.vehicles k
    v = some_from (gap_in_vehicle counts states) 1 counts.vehicles k h

    t : FoundFrom (gap_in_time counts states v.class) 1 counts.times k
    t = some_from (gap_in_time counts states v.class) 1 counts.times k v.found

    l : FoundFrom (gap_in_location counts states v.class t.class) 1 counts.locations k
    l = some_from (gap_in_location counts states v.class t.class) 1 counts.locations k t.found

    u : FoundFrom (gap_at counts states v.class t.class l.class) 1 counts.users k
    u = some_from (gap_at counts states v.class t.class l.class) 1 counts.users k l.found

    at_gap : Classes
    at_gap = here v.class t.class l.class u.class

    is_gap : (k ≡ at_gap) × (claimed states k ≡ false)
    unfolding at_gap
    is_gap = gap_found_at v.class t.class l.class u.class k u.found

    -- combinations that come before the gap, by the first class in which they differ
    before_gap : (j : Classes) → Combination counts j → Before j at_gap → claimed states j ≡ true
    unfolding at_gap here
    before_gap j c b =
        let at : ℕ → ℕ → ℕ → Type 0 = λ x y z. claimed states (here x y z j.user) ≡ true in
        ⊎_elim
        (λ lt. vehicle_claimed j.vehicle (v.before j.vehicle c.vehicle_low lt) j.time j.location j.user c.time_low c.time_high c.location_low c.location_high c.user_low c.user_high)
        (λ same_v. ⊎_elim
        (λ lt. subst (λ x. at x j.time j.location) (sym same_v.0) (time_claimed v.class j.time (t.before j.time c.time_low lt) j.location j.user c.location_low c.location_high c.user_low c.user_high))
        (λ same_t. ⊎_elim
        (λ lt. subst (λ x. at x j.time j.location) (sym same_v.0) (subst (λ y. at v.class y j.location) (sym same_t.0) (location_claimed v.class t.class j.location (l.before j.location c.location_low lt) j.user c.user_low c.user_high)))
        (λ same_l. subst (λ x. at x j.time j.location) (sym same_v.0) (subst (λ y. at v.class y j.location) (sym same_t.0) (subst (λ z. at v.class t.class z) (sym same_l.0) (no_gap_at v.class t.class l.class j.user (u.before j.user c.user_low same_l.1)))))
        same_t.1)
        same_v.1)
        b

    pub first_gap_found : FirstGap counts states k
    unfolding at_gap here
    first_gap_found = record {
      combination = rw is_gap.0 (record {
        vehicle_low = v.low;
        vehicle_high = omega (arith, v.high);
        time_low = t.low;
        time_high = omega (arith, t.high);
        location_low = l.low;
        location_high = omega (arith, l.high);
        user_low = u.low;
        user_high = omega (arith, u.high);
      });
      unclaimed = λ c. both_ways (claimed states k) is_gap.1 (claimed_from k states c);
      earlier = λ j c b. claimed_true j states (before_gap j c (rw is_gap.0 at b));
    }

  pub gap_meaning : (r : Option Classes) → r ≡ first_gap counts states → MatchOption r (NoGap counts states) (FirstGap counts states)
  gap_meaning None e = no_gap (sym e)
  gap_meaning (Some k) e = first_gap_found k (sym e)
