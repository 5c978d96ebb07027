-- Laws of one bill, by the terms of its group: as a quotient of naturals, within half a dollar of the unrounded premium, its
-- numerator with half the divisor below 2 ^ 63 and itself below 2 ^ 31. Assumes nothing.
use mathlib.Core.Path.{◌≡◌, sym, ap, ◌∙◌, subst}
use Prim.Native.Nat.{ℕ, ◌+◌, ◌*◌, ◌/◌, ◌^◌, ◌≤◌, ◌<◌}
use native.Mathlib.Omega.{arith}
use native.Mathlib.Nat.{mul-le-mul, mul-le-mul_left, mul-le-mul_right}
use lib.IntN.{ℤ, pos, nat_abs}
use Rattle.plan.specs.Sizes.{most_dollars, most_shared, premium_scale, half_dollar}
use Rattle.plan.specs.Ratable.{clamp}
use Rattle.plan.specs.Premium.{Terms, unrounded_of, bill_rounding, bill_of, bill_with}
use Rattle.plan.specs.Bounds.{TermsBounds}
use Rattle.laws.proofs.Rounding.{Within, bill-within, within-lt, bill-even}

-- by the terms t, of a risk whose A is a, with M the amount m
module _ (t : Terms) (b : TermsBounds t) (m : ℕ) (is : pos m ≡ t.basic) (a : ℕ) where
  abbrev pub numerator : ℕ
  numerator = t.tax * (m + t.excess + t.risks * t.conversion * clamp t.minimum t.maximum a)

  shared-le : m + t.excess ≤ most_shared * t.risks
  shared-le = omega (arith, ap nat_abs is, b.shared)

  -- n × c × K
  pub ratable-le : t.risks * t.conversion * clamp t.minimum t.maximum a ≤ 792722700000 * t.risks
  ratable-le =
      let k : clamp t.minimum t.maximum a ≤ most_dollars = omega (arith, b.maximum) in
      omega (arith, mul-le-mul_left t.risks (mul-le-mul b.conversion k))

  pub inner-le : m + t.excess + t.risks * t.conversion * clamp t.minimum t.maximum a ≤ 859831500000 * t.risks
  inner-le = omega (arith, shared-le, ratable-le)

  pub numerator-le : numerator ≤ 17196630000000000 * t.risks
  numerator-le =
      omega (
        arith,
        inner-le,
        mul-le-mul_right (m + t.excess + t.risks * t.conversion * clamp t.minimum t.maximum a) b.tax,
      )

  -- the bill on naturals
  pub bill_is : bill_with t a ≡ bill_rounding numerator (premium_scale * t.risks)
  unfolding bill_with
  bill_is =
      ap
      (λ (z : ℤ). bill_of
      (unrounded_of t.risks t.conversion t.tax z t.excess (clamp t.minimum t.maximum a))
      (premium_scale * t.risks))
      (sym is)

  halves : 2 * (half_dollar * t.risks) ≡ premium_scale * t.risks
  halves = omega arith

  half-some : 0 < half_dollar * t.risks
  half-some = omega (arith, b.some)

  -- half the divisor is added, and the sum divided
  pub bill-quotient : (numerator + half_dollar * t.risks) / (premium_scale * t.risks) ≡ bill_with t a
  bill-quotient =
      ap (λ (x : ℕ). (numerator + half_dollar * t.risks) / x) (sym halves)
      ∙ sym (bill-even numerator (half_dollar * t.risks) half-some)
      ∙ ap (bill_rounding numerator) halves
      ∙ sym bill_is

  -- within half a dollar of the unrounded premium
  pub premium-within : Within (premium_scale * t.risks * bill_with t a) numerator (half_dollar * t.risks)
  premium-within =
      subst (λ (x : ℕ). Within (premium_scale * t.risks * x) numerator (half_dollar * t.risks)) (sym bill_is)
      (subst (λ (x : ℕ). Within (x * bill_rounding numerator x) numerator (half_dollar * t.risks)) halves
      (bill-within (half_dollar * t.risks) numerator half-some))

  -- 'as 32 bits': it fits
  pub bill-lt : bill_with t a < 2 ^ 31
  bill-lt =
      within-lt (half_dollar * t.risks) (bill_with t a) numerator (2 ^ 31)
      (subst (λ (x : ℕ). Within (x * bill_with t a) numerator (half_dollar * t.risks)) (sym halves) premium-within)
      (omega (arith, numerator-le, b.some))
