-- Savings and charge on one curve: formula (9) of document 001, S = X + r − 1, in Table's thousandths after rounding too. What
-- A lacks less what it has above is r × SA − 100 × n × A, so the two numerators differ by a multiple of the divisor, and a
-- multiple of the divisor passes through the rounding. Assumes nothing.
use mathlib.Core.Path.{◌≡◌, sym, ap, ◌∙◌}
use mathlib.Core.List.{List}
use Prim.Native.Nat.{ℕ, ◌+◌, ◌*◌, ◌<◌}
use native.Mathlib.Omega.{arith}
use native.Mathlib.Nat.{mul-pos}
use lib.ListN.{length}
use Rattle.plan.specs.Arithmetic.{above, below, nearest}
use Rattle.plan.specs.Losses.{Losses, SA}
use Rattle.plan.specs.Table.{charge_sum, savings_sum, charge, savings}
use Rattle.laws.proofs.Sums.{sum-ext, sum-add, sum-mul, sum-const}
use Rattle.laws.proofs.Rounding.{nearest-shift}

module _ (rs : List Losses) (r : ℕ) where
  -- of the numerators
  pub sums-differ : savings_sum rs r + 100 * length rs * SA rs ≡ charge_sum rs r + length rs * (r * SA rs)
  unfolding savings_sum charge_sum
  sums-differ =
      let a : Losses → ℕ = λ x. 100 * length rs * x.limited in
      let m : ℕ = r * SA rs in
      let e = sum-ext (λ (x : Losses). below (a x) m + a x) (λ x. above (a x) m + m) (λ x. omega arith) rs in
      omega (
        arith,
        e,
        sum-add (λ x. below (a x) m) a rs,
        sum-add (λ x. above (a x) m) (λ x. m) rs,
        sum-mul (100 * length rs) (λ (x : Losses). x.limited) rs,
        sum-const m rs,
      )

  -- savings + 1,000 = charge + 10 × r
  pub savings-charge : 0 < length rs → 0 < SA rs → savings rs r + 1000 ≡ charge rs r + 10 * r
  unfolding savings charge
  savings-charge pn ps =
      let d : ℕ = 100 * length rs * SA rs in
      let pd : 0 < 100 * length rs * SA rs = mul-pos (omega arith) ps in
      let e : 1000 * savings_sum rs r + d * 1000 ≡ 1000 * charge_sum rs r + d * (10 * r) = omega (arith, sums-differ) in
      sym (nearest-shift (1000 * savings_sum rs r) d 1000 pd)
      ∙ ap (λ (x : ℕ). nearest x d) e
      ∙ nearest-shift (1000 * charge_sum rs r) d (10 * r) pd
