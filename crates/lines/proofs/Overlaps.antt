-- Two lines meet, set by set, exactly when some combination is claimed by both.
use Rattle.std.proofs.Common.{◌≡◌, ℕ, ◌^◌, ◌≤◌, Bool, true, ◌&&◌, ltb, leb, Decides, arith, pow_mono}
use Rattle.std.proofs.lemmas.Bool.{and_parts, and_from, leb-true, ltb-true}
use Rattle.lines.specs.declared.sets.ClassSet.{ClassSet}
use Rattle.lines.specs.declared.sets.Counts.{Counts}
use Rattle.lines.specs.declared.states.Line.{Line}
use Rattle.lines.specs.Sets.{has_class, set_fits, sets_meet, count_in_range, counts_in_range}
use Rattle.lines.specs.Lines.{line_fits, lines_meet, Overlap}
use Rattle.lines.proofs.Bits.{class_parts, meet_shared, shared_meet, fits_below}

-- the four parts of a test
pub four : (p q r s : Bool) → (p && q && r && s) ≡ true → (p ≡ true) × (q ≡ true) × (r ≡ true) × (s ≡ true)
four p q r s h =
    let last = and_parts (p && q && r) s h in
    let third = and_parts (p && q) r last.0 in
    let first = and_parts p q third.0 in
    (first.0, first.1, third.1, last.1)

pub four_from : (p q r s : Bool) → p ≡ true → q ≡ true → r ≡ true → s ≡ true → (p && q && r && s) ≡ true
four_from p q r s a b c d = and_from (p && q && r) s (and_from (p && q) r (and_from p q a b) c) d

-- a set that fits a count of at most 64, and meets another, shares a class with it that the count allows
shared_class : (count : ℕ) (a b : ClassSet) → count_in_range count ≡ true → set_fits count a ≡ true → sets_meet a b ≡ true → (c : ℕ) × (1 ≤ c) × (c ≤ count) × (has_class a c ≡ true) × (has_class b c ≡ true)
shared_class count a b range fit meet =
    let wide = leb-true count 64 (and_parts (leb 1 count) (leb count 64) range).1 in
    let small = ltb-true a.0 (2 ^ count) (and_parts (ltb 0 a.0) (ltb a.0 (2 ^ count)) fit).1 in
    let both = meet_shared a b (omega (arith, small, pow_mono wide)) meet in
    (both.shared, (class_parts a both.shared both.in_first).0, fits_below count a both.shared fit both.in_first, both.in_first, both.in_second)

module _ (counts : Counts) (a b : Line) where
  pub meet_overlap : counts_in_range counts ≡ true → line_fits counts a ≡ true → lines_meet a b ≡ true → Overlap counts a b
  meet_overlap range fit meet =
      let ranges = four _ _ _ _ range in
      let fits = four _ _ _ _ fit in
      let meets = four _ _ _ _ meet in
      let v = shared_class counts.vehicles a.vehicles b.vehicles ranges.0 fits.0 meets.0 in
      let t = shared_class counts.times a.times b.times ranges.1 fits.1 meets.1 in
      let l = shared_class counts.locations a.locations b.locations ranges.2 fits.2 meets.2 in
      let u = shared_class counts.users a.users b.users ranges.3 fits.3 meets.3 in
      record {
        shared = record { vehicle = v.0; time = t.0; location = l.0; user = u.0 };
        combination = record {
          vehicle_low = v.1;
          vehicle_high = v.2;
          time_low = t.1;
          time_high = t.2;
          location_low = l.1;
          location_high = l.2;
          user_low = u.1;
          user_high = u.2;
        };
        by_first = four_from _ _ _ _ v.3 t.3 l.3 u.3;
        by_second = four_from _ _ _ _ v.4 t.4 l.4 u.4;
      }

  -- whatever the counts are, a combination that both claim is one class in each pair of sets
  pub overlap_meet : Overlap counts a b → lines_meet a b ≡ true
  overlap_meet o =
      let first = four _ _ _ _ o.by_first in
      let second = four _ _ _ _ o.by_second in
      four_from _ _ _ _
      (shared_meet a.vehicles b.vehicles (record { shared = o.shared.vehicle; in_first = first.0; in_second = second.0 }))
      (shared_meet a.times b.times (record { shared = o.shared.time; in_first = first.1; in_second = second.1 }))
      (shared_meet a.locations b.locations (record { shared = o.shared.location; in_first = first.2; in_second = second.2 }))
      (shared_meet a.users b.users (record { shared = o.shared.user; in_first = first.3; in_second = second.3 }))

  pub meet_decides : counts_in_range counts ≡ true → line_fits counts a ≡ true → Decides (lines_meet a b) (Overlap counts a b)
  meet_decides range fit = (meet_overlap range fit, overlap_meet)
