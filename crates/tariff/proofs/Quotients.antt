-- Rounding: the value meets the relation, the quotient and remainder give the value, and the value is small.
use Rattle.std.proofs.Common.{◌≡◌, ℕ, ◌+◌, ◌-◌, ◌*◌, ◌/◌, ◌%◌, ◌<◌, ◌≤◌, true, false, ◌⊎◌, sym, refl, ap, ◌∙◌, subst, inl, inr, ⊎_elim, mul_assoc, mul_comm, add-mul, one-mul, mul-one, arith}
use native.Mathlib.Nat.{div-zero}
use Rattle.std.proofs.lemmas.Nat.{div-add-mod', div-mul-add, mod_below, mul-le}
use Rattle.std.proofs.lemmas.Bool.{cases_eq, cases_lt, cases_order, false≢true, ltb-true, ltb-false, leb-true, leb-false}
use Rattle.tariff.specs.declared.codes.Rounding.{Rounding}
use Rattle.tariff.specs.declared.codes.Rounding.TheVariants.{Up, Down, Nearest}
use Rattle.tariff.specs.Quotients.{rounded, raises, Rounded}

-- a multiple further on is at least one step further
step : (d m k : ℕ) → m < k → m * d + d ≤ k * d
step d m k h = omega (arith, mul-le (m + 1) d k d (omega arith) (omega arith), add-mul m 1 d, one-mul d)

twice : (q d : ℕ) → q * (2 * d) ≡ 2 * (q * d)
twice q d = sym (mul_assoc q 2 d) ∙ ap (λ x. x * d) (mul_comm q 2) ∙ mul_assoc 2 q d

module _ (n d : ℕ) (some : 0 < d) where
  pub up_meaning : Rounded Up n d (rounded Up n d)
  unfolding rounded
  up_meaning =
      let q : ℕ = (n + (d - 1)) / d in
      let whole = div-add-mod' (n + (d - 1)) d in
      let rest = mod_below (n + (d - 1)) d some in
      record {
        not_below = omega (arith, whole, rest);
        least = λ m h. ⊎_elim (λ lt. absurd (omega (arith, whole, step d m q lt))) (λ le. le) (cases_lt m q);
      }

  pub down_meaning : Rounded Down n d (rounded Down n d)
  unfolding rounded
  down_meaning =
      let q : ℕ = n / d in
      let whole = div-add-mod' n d in
      let rest = mod_below n d some in
      record {
        not_above = omega (arith, whole);
        greatest = λ m h. ⊎_elim (λ lt. absurd (omega (arith, whole, rest, step d q m lt))) (λ le. le) (cases_lt q m);
      }

  pub nearest_meaning : Rounded Nearest n d (rounded Nearest n d)
  unfolding rounded
  nearest_meaning =
      let q : ℕ = (2 * n + d) / (2 * d) in
      let whole = div-add-mod' (2 * n + d) (2 * d) in
      let rest = mod_below (2 * n + d) (2 * d) (omega arith) in
      let double = twice q d in
      record {
        nearest = λ m. ⊎_elim
            (λ e. rw e (omega arith))
            (⊎_elim (λ lt. omega (arith, whole, rest, double, step d m q lt)) (λ gt. omega (arith, whole, rest, double, step d q m gt)))
            (cases_order m q);
        halves_up = λ m same. ⊎_elim (λ gt. absurd (omega (arith, whole, rest, double, step d q m gt))) (λ le. le) (cases_lt q m);
      }

-- what each rounding means, at its value
pub rounded_meaning : (k : Rounding) (n d : ℕ) → 0 < d → Rounded k n d (rounded k n d)
rounded_meaning Up = up_meaning
rounded_meaning Down = down_meaning
rounded_meaning Nearest = nearest_meaning

-- by 0, every quotient is 0
pub by_zero : (k : Rounding) (n d : ℕ) → d ≡ 0 → 0 ≡ rounded k n d
unfolding rounded
by_zero Up n d e = rw e (sym (div-zero (n + 0)))
by_zero Down n d e = rw e (sym (div-zero n))
by_zero Nearest n d e = rw e (sym (div-zero (2 * n + 0)))

module _ (n d : ℕ) (some : 0 < d) where
  whole : n / d * d + n % d ≡ n
  whole = div-add-mod' n d

  rest : n % d < d
  rest = mod_below n d some

  -- the code's way: the whole part, and one more where the rounding raises it
  pub by_remainder : (k : Rounding) → (raises k (n % d) d ≡ true → n / d + 1 ≡ rounded k n d) × (raises k (n % d) d ≡ false → n / d ≡ rounded k n d)
  unfolding rounded
  by_remainder Up = (
    (λ e. sym (rw (split_up (ltb-true 0 (n % d) e)) (div-mul-add (n / d + 1) d (n % d - 1) (omega (arith, rest))))),
    (λ e. sym (rw (split_level (ltb-false 0 (n % d) e)) (div-mul-add (n / d) d (d - 1) (omega arith)))),
  )
    where
      split_up : 0 < n % d → n + (d - 1) ≡ (n / d + 1) * d + (n % d - 1)
      split_up h = omega (arith, whole, add-mul (n / d) 1 d, one-mul d)

      split_level : n % d ≤ 0 → n + (d - 1) ≡ n / d * d + (d - 1)
      split_level h = omega (arith, whole)
  by_remainder Down = ((λ e. absurd (false≢true e)), (λ e. refl))
  by_remainder Nearest = (
    (λ e. let h = leb-true (d - n % d) (n % d) e in sym (rw (split_up h) (div-mul-add (n / d + 1) (2 * d) (2 * (n % d) - d) (omega (arith, rest))))),
    (λ e. let h = leb-false (d - n % d) (n % d) e in sym (rw (split_level) (div-mul-add (n / d) (2 * d) (2 * (n % d) + d) (omega (arith, rest, h))))),
  )
    where
      split_up : d - n % d ≤ n % d → 2 * n + d ≡ (n / d + 1) * (2 * d) + (2 * (n % d) - d)
      split_up h = omega (arith, whole, rest, add-mul (n / d) 1 (2 * d), one-mul (2 * d), twice (n / d) d)

      split_level : 2 * n + d ≡ n / d * (2 * d) + (2 * (n % d) + d)
      split_level = omega (arith, whole, twice (n / d) d)

-- what the value means carries over to whatever equals it
pub means : (k : Rounding) (n d q : ℕ) → q ≡ rounded k n d → 0 < d → Rounded k n d q
means k n d q e some = subst (Rounded k n d) (sym e) (rounded_meaning k n d some)

-- no quotient is above its dividend
pub rounded_le : (k : Rounding) (n d : ℕ) → rounded k n d ≤ n
rounded_le k n d = ⊎_elim (λ none. rw (sym (by_zero k n d none)) (omega arith)) (λ some. small k some) (none_or_some d)
  where
    none_or_some : (d : ℕ) → (d ≡ 0) ⊎ (0 < d)
    none_or_some d = ⊎_elim (λ e. inl e) (λ h. inr (omega (arith, h))) (cases_eq d 0)

    times : (m : ℕ) → 0 < d → m ≤ m * d
    times m some = omega (arith, mul-le m 1 m d (omega arith) some, mul-one m)

    small : (k : Rounding) → 0 < d → rounded k n d ≤ n
    small Up some = (rounded_meaning Up n d some).least n (times n some)
    small Down some = omega (arith, (rounded_meaning Down n d some).not_above, times (rounded Down n d) some)
    small Nearest some =
        let q : ℕ = rounded Nearest n d in
        ⊎_elim (λ lt. absurd (omega (arith, (rounded_meaning Nearest n d some).nearest n, step d n q lt, times n some))) (λ le. le) (cases_lt n q)
