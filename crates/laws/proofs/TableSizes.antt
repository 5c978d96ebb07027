-- Sizes of Table's numerators at an entry ratio of at most 600: the charge's is at most the divisor, the savings' at most six
-- times it, and in thousandths, with half the divisor, either stays below 2 ^ 63. Assumes nothing.
use mathlib.Core.List.{List}
use Prim.Native.Nat.{ℕ, ◌+◌, ◌*◌, ◌^◌, ◌≤◌, ◌<◌}
use native.Mathlib.Omega.{arith}
use native.Mathlib.Nat.{mul-le-mul, mul-le-mul_right, sub-le}
use lib.ListN.{length}
use Rattle.plan.specs.Arithmetic.{above, below}
use Rattle.plan.specs.Sizes.{most_risks, most_group_losses, most_ratio}
use Rattle.plan.specs.Header.{Header}
use Rattle.plan.specs.Losses.{Losses, SA}
use Rattle.plan.specs.Table.{charge_sum, savings_sum}
use Rattle.plan.specs.Bounds.{GroupBounds}
use Rattle.laws.proofs.Sums.{sum-le, sum-mul, sum-const}
use Rattle.laws.proofs.GroupSizes.{SA-le}

module _ (h : Header) (rs : List Losses) (b : GroupBounds h rs) (r : ℕ) (hr : r ≤ most_ratio) where
  pub losses-le : SA rs ≤ most_group_losses
  losses-le = omega (arith, SA-le h rs b, b.risks)

  product : length rs * SA rs ≤ most_risks * most_group_losses
  product = mul-le-mul b.risks losses-le

  pub charge-le : charge_sum rs r ≤ 100 * length rs * SA rs
  unfolding charge_sum
  charge-le =
      let a = sum-le (λ x. above (100 * length rs * x.limited) (r * SA rs)) (λ x. 100 * length rs * x.limited)
      (λ x. sub-le _ _) rs in
      omega (arith, a, sum-mul (100 * length rs) (λ (x : Losses). x.limited) rs)

  pub savings-le : savings_sum rs r ≤ most_ratio * length rs * SA rs
  unfolding savings_sum
  savings-le =
      let a = sum-le (λ x. below (100 * length rs * x.limited) (r * SA rs)) (λ x. r * SA rs) (λ x. sub-le _ _) rs in
      omega (arith, a, sum-const (r * SA rs) rs, mul-le-mul_right (length rs * SA rs) hr)

  -- in thousandths, with half the divisor
  pub charge-lt : 1000 * charge_sum rs r + 50 * length rs * SA rs < 2 ^ 63
  charge-lt = omega (arith, charge-le, product)

  pub savings-lt : 1000 * savings_sum rs r + 50 * length rs * SA rs < 2 ^ 63
  savings-lt = omega (arith, savings-le, product)
