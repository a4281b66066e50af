-- In an issued book every combination has one line, and that line has a tariff.
use Rattle.std.proofs.Common.{◌≡◌, ℕ, true, false, eqb, ltb, [], ◌∷◌, Some, None, Option, unwrap_or, sym, refl, ap, ◌∙◌, subst, arith}
use mathlib.Core.HLevel.{⊥_prop}
use Rattle.std.proofs.Math.Logic.{∥∥₁_elim}
use native.Mathlib.Nat.{ℕ_set}
use Rattle.std.proofs.lemmas.Bool.{both_ways, eqb-true, ltb-true}
use Rattle.classes.specs.declared.refusal.Classes.{Classes}
use Rattle.classes.specs.declared.usage.Usage.{Usage}
use Rattle.classes.specs.Outcomes.{accepted, refusal}
use Rattle.tariff.specs.declared.charge.Amounts.{Amounts}
use Rattle.tariff.specs.declared.terms.Tariff.{Tariff}
use Rattle.tariff.specs.Fees.{charge_of}
use Rattle.lines.specs.declared.states.Line.{Line}
use Rattle.lines.specs.declared.states.LineState.TheVariants.{Live}
use Rattle.lines.specs.Lines.{Combination, claims, state_claims}
use Rattle.lines.specs.Tables.{first_claim, Lowest}
use Rattle.lines.proofs.Numbers.{live_line, lowest_found, none_found}
use Rattle.contents.specs.declared.contents.Contents.{Contents}
use Rattle.contents.specs.declared.contents.Phase.TheVariants.{Issued}
use Rattle.charging.specs.declared.pricing.Price.{Price}
use Rattle.contents.specs.Contents.{in_phase, tariff_at, line_at}
use Rattle.contents.specs.Calls.{Refused, answered}
use Rattle.classes.specs.Determinants.{Meanings}
use Rattle.classes.proofs.Clash.{clash}
use Rattle.charging.specs.Prices.{classes_of, amounts_of, amounts_in_range, price_refusal, by_tariff, by_state, by_number, price_of, priced, OneLine}
use Rattle.book.specs.Sound.{Sound}
use Rattle.contents.proofs.Refused.{answered_accepted, answered_refused, passed}

-- the classes of a usage that is not refused are a combination
pub priced_combination : (b : Contents) (d : Meanings) (u : Usage) → price_refusal b d u ≡ None → (in_phase Issued b ≡ true) × Combination b.counts (classes_of d u)
priced_combination b d u e =
    let phase = passed (in_phase Issued b) (1, []) _ e in
    let cv = passed (eqb d.vehicle.count b.counts.vehicles) (14, 1 ∷ []) _ phase.1 in
    let ct = passed (eqb d.time.count b.counts.times) (14, 2 ∷ []) _ cv.1 in
    let cl = passed (eqb d.location.count b.counts.locations) (14, 3 ∷ []) _ ct.1 in
    let cu = passed (eqb d.user.count b.counts.users) (14, 4 ∷ []) _ cl.1 in
    let amounts = passed (amounts_in_range u) (15, []) _ cu.1 in
    let kv = passed (ltb 0 (d.vehicle.class u)) (16, 1 ∷ []) _ amounts.1 in
    let kt = passed (ltb 0 (d.time.class u)) (16, 2 ∷ []) _ kv.1 in
    let kl = passed (ltb 0 (d.location.class u)) (16, 3 ∷ []) _ kt.1 in
    let ku = passed (ltb 0 (d.user.class u)) (16, 4 ∷ []) None kl.1 in (
      phase.0,
      record {
        vehicle_low = ltb-true 0 _ kv.0;
        vehicle_high = omega (arith, eqb-true _ _ cv.0, d.vehicle.within u);
        time_low = ltb-true 0 _ kt.0;
        time_high = omega (arith, eqb-true _ _ ct.0, d.time.within u);
        location_low = ltb-true 0 _ kl.0;
        location_high = omega (arith, eqb-true _ _ cl.0, d.location.within u);
        user_low = ltb-true 0 _ ku.0;
        user_high = omega (arith, eqb-true _ _ cu.0, d.user.within u);
      },
    )

module _ (b : Contents) (k : Classes) (a : Amounts) where
  -- a price comes from a live line that claims the classes, and from its tariff
  pub record FromLine (p : Price) : Type 0 where
    pub line : Line
    pub live : line_at b p.line ≡ Live line
    pub claiming : claims line k ≡ true
    pub tariff_number : p.tariff ≡ line.tariff
    pub tariff : Tariff
    pub put : tariff_at b p.tariff ≡ Some tariff
    pub charged : p.charge ≡ charge_of tariff a

  from_tariff : (n : ℕ) (l : Line) (o : Option Tariff) (p : Price) → line_at b n ≡ Live l → claims l k ≡ true → tariff_at b l.tariff ≡ o → by_tariff n l a o ≡ Some p → FromLine p
  from_tariff n l None p live claim put e = clash cc
  from_tariff n l (Some t) p live claim put e =
      let same : p ≡ record { line = n; tariff = l.tariff; charge = charge_of t a } = cc in
      rw same (record { line = l; live = live; claiming = claim; tariff_number = refl; tariff = t; put = put; charged = refl })

  pub from_line : (o : Option ℕ) (p : Price) → first_claim b.lines.states k ≡ o → by_number b a o ≡ Some p → FromLine p
  from_line None p found e = clash cc
  from_line (Some n) p found e =
      let lowest : Lowest (state_claims k) b.lines.states n = lowest_found (state_claims k) refl b.lines.states n found in
      let here = live_line k (line_at b n) lowest.passes in
      let by : by_tariff n here.0 a (tariff_at b here.0.tariff) ≡ Some p = subst (λ s. by_state b a n s ≡ Some p) here.1 e in
      from_tariff n here.0 (tariff_at b here.0.tariff) p here.1 here.2 refl by

  -- a sound book that is issued has a price for every combination
  pub never_none : Sound b → in_phase Issued b ≡ true → Combination b.counts k → price_of b k a ≡ None → ⊥
  never_none s issued kc none = by (first_claim b.lines.states k) refl none
    where
      by : (o : Option ℕ) → first_claim b.lines.states k ≡ o → by_number b a o ≡ None → ⊥
      by None found e =
          let claim = s.whole issued k kc in
          let unclaimed : state_claims k (line_at b claim.number) ≡ false = none_found (state_claims k) refl b.lines.states found claim.number in
          both_ways _ (rw claim.live at unclaimed) claim.claimed
      by (Some n) found e =
          let lowest : Lowest (state_claims k) b.lines.states n = lowest_found (state_claims k) refl b.lines.states n found in
          let here = live_line k (line_at b n) lowest.passes in
          let support = s.live n here.0 here.1 in
          let no_tariff : by_tariff n here.0 a (tariff_at b here.0.tariff) ≡ None = subst (λ x. by_state b a n x ≡ None) here.1 e in
          let no_price : by_tariff n here.0 a (Some support.tariff) ≡ None = subst (λ x. by_tariff n here.0 a x ≡ None) support.put no_tariff in
          clash cc

  -- and the line of that price is the only one
  pub one_line : (p : Price) → ∥ Sound b ∥₁ → Combination b.counts k → FromLine p → OneLine b k a p
  one_line p s kc f = record {
    line = f.line;
    live = f.live;
    claiming = f.claiming;
    only = λ m y live claim. ∥∥₁_elim s (ℕ_set m p.line) (λ h. h.apart k kc m p.line y f.line live f.live claim f.claiming);
    tariff_number = f.tariff_number;
    tariff = f.tariff;
    put = f.put;
    charged = f.charged;
  }

-- the ends of a pricing call
module _ (b : Contents) (d : Meanings) (u : Usage) where
  -- refused before a price is sought
  pub price_refused : (y : Refused) → refusal y ≡ answered (price_refusal b d u) (classes_of d u) → refusal y ≡ answered (price_refusal b d u) (priced b d u)
  price_refused y e = rw (answered_refused (price_refusal b d u) (classes_of d u) y (sym e)) refl

  module _ (k : Classes) (a : Amounts) (s : ∥ Sound b ∥₁) (tested : accepted k ≡ answered (price_refusal b d u) (classes_of d u)) (amounts : a ≡ amounts_of u) where
    no_refusal : (price_refusal b d u ≡ None) × (classes_of d u ≡ k)
    no_refusal = answered_accepted (price_refusal b d u) (classes_of d u) k (sym tested)

    of_usage : price_of b k a ≡ price_of b (classes_of d u) (amounts_of u)
    of_usage = rw (no_refusal.1, amounts) refl

    -- no price: it cannot be
    pub price_missing : None ≡ price_of b k a → ⊥
    price_missing e =
        let fine = priced_combination b d u no_refusal.0 in
        ∥∥₁_elim s ⊥_prop (λ h. never_none b (classes_of d u) (amounts_of u) h fine.0 fine.1 (sym (e ∙ of_usage)))

    pub price_answer : (p : Price) → Some p ≡ price_of b k a → accepted p ≡ answered (price_refusal b d u) (priced b d u)
    price_answer p e = rw no_refusal.0 (ap (λ o. accepted (unwrap_or o (record { line = 0; tariff = 0; charge = record { fee = 0; vat = 0 } }))) (e ∙ of_usage))

    pub price_line : (p q : Price) → Some p ≡ price_of b k a → accepted p ≡ accepted q → OneLine b (classes_of d u) (amounts_of u) q
    price_line p q e same =
        let fine = priced_combination b d u no_refusal.0 in
        let as_answered : p ≡ q = cc in
        one_line b (classes_of d u) (amounts_of u) q s fine.1 (from_line b (classes_of d u) (amounts_of u) (first_claim b.lines.states (classes_of d u)) q refl (sym (ap (λ x. Some x) (sym as_answered) ∙ e ∙ of_usage)))
