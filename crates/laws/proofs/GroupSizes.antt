-- Sizes of steps 2 to 5, of a group within its bounds: a mark's dollars by the mark's own bound, SX by SA, SS by LH for each
-- risk, and M + Q by 1,000 × (n × e + SL), since what M adds for the maximum is never more than SA. Assumes nothing.
use mathlib.Core.Path.{◌≡◌, sym, ap, subst}
use mathlib.Core.Bool.{true}
use mathlib.Core.List.{List}
use Prim.Native.Nat.{ℕ, zero, suc, ◌+◌, ◌*◌, ◌-◌, ◌^◌, ◌≤◌, ◌<◌}
use native.Mathlib.Omega.{arith}
use native.Mathlib.Nat.{mul-le-mul, mul-le-mul_left, mul-le-mul_right, div-le_of_le-mul, le_trans, sub-le}
use lib.IntN.{ℤ, pos, negsuc, nat_abs}
use lib.Signed.{non_neg}
use lib.ListN.{length}
use Rattle.plan.specs.Arithmetic.{above, below}
use Rattle.plan.specs.Sizes.{largest_expense, most_mark, most_risk_losses, most_dollars}
use Rattle.plan.specs.Header.{Header, standard_premium_field}
use Rattle.plan.specs.Losses.{Losses, SL, SA}
use Rattle.plan.specs.Marks.{mark_of, dollars, LG, LH}
use Rattle.plan.specs.Ratable.{SX, SS}
use Rattle.plan.specs.Basic.{basic_of, basic_premium, excess_charge}
use Rattle.plan.specs.Premium.{terms_of}
use Rattle.plan.specs.Bounds.{GroupBounds, TermsBounds}
use Rattle.laws.proofs.Sums.{sum-le, sum-const}
use Rattle.laws.proofs.Differences.{Differs}
use Rattle.laws.proofs.Balance.{basic-differs}
use Rattle.laws.proofs.Questions.{BalanceSound}

-- a mark's dollars, of either kind
dollars-le : (kind mark premium n sa : ℕ) → mark ≤ most_mark → premium < 2 ^ standard_premium_field.width → sa ≤ most_risk_losses * n
    → dollars (mark_of kind mark) premium n sa ≤ most_dollars
dollars-le zero mark premium n sa hm hp hs = div-le_of_le-mul 1000 (omega (arith, mul-le-mul_right premium hm))
dollars-le (suc k) mark premium n sa hm hp hs = div-le_of_le-mul (1000 * n) (omega (arith, mul-le-mul hm hs))

-- M + Q, where M is at least 0
basic-excess : (n e c sl sa sx ss q m : ℕ) → pos m ≡ basic_of n e c sl sx ss → sa + q ≡ sl → sx ≤ sa
    → m + c * q ≤ 1000 * (n * e + sl)
basic-excess n e c sl sa sx ss q m is h g =
    let d : Differs (pos m) (1000 * n * e + 1000 * sl + c * sx) (c * sl + c * ss) =
    subst (λ (z : ℤ). Differs z (1000 * n * e + 1000 * sl + c * sx) (c * sl + c * ss)) (sym is)
    (basic-differs n e c sl sx ss) in
    omega (arith, d.is, ap (λ (x : ℕ). c * x) h, mul-le-mul_left c g)

-- a whole number that is not negative is its amount
pub amount-of : (z : ℤ) → non_neg z ≡ true → pos (nat_abs z) ≡ z
amount-of (pos m) e = cc
amount-of (negsuc m) e = cc

module _ (h : Header) (rs : List Losses) (b : GroupBounds h rs) where
  pub SA-le : SA rs ≤ most_risk_losses * length rs
  SA-le = le_trans b.limited b.total

  pub LG-le : LG h rs ≤ most_dollars
  unfolding LG
  LG-le = dollars-le h.mark_kind h.maximum_mark h.standard_premium (length rs) (SA rs) b.sound.maximum b.premium SA-le

  pub LH-le : LH h rs ≤ most_dollars
  unfolding LH
  LH-le = dollars-le h.mark_kind h.minimum_mark h.standard_premium (length rs) (SA rs) b.sound.minimum b.premium SA-le

  pub SX-le : SX h rs ≤ SA rs
  unfolding SX
  SX-le = sum-le (λ r. above r.limited (LG h rs)) (λ r. r.limited) (λ r. omega arith) rs

  pub SS-le : SS h rs ≤ most_dollars * length rs
  unfolding SS
  SS-le =
      omega (
        arith,
        sum-le (λ r. below r.limited (LH h rs)) (λ (r : Losses). LH h rs) (λ r. sub-le _ _) rs,
        sum-const (LH h rs) rs,
        mul-le-mul_left (length rs) LH-le,
      )

  -- the terms of a group that passes 12
  module _ (sound : BalanceSound h rs) where
    pub basic_after : pos (nat_abs (basic_premium h rs)) ≡ basic_premium h rs
    basic_after = amount-of (basic_premium h rs) sound.not_negative

    shared-le : nat_abs (basic_premium h rs) + excess_charge h rs ≤ 1000 * (length rs * h.expense + SL rs)
    unfolding basic_premium excess_charge
    shared-le =
        basic-excess (length rs) h.expense h.conversion (SL rs) (SA rs) (SX h rs) (SS h rs) (SL rs - SA rs)
        (nat_abs (basic_premium h rs)) basic_after (omega (arith, b.limited)) SX-le

    pub terms-bounds : TermsBounds (terms_of h rs)
    terms-bounds =
        let e : length rs * h.expense ≤ length rs * largest_expense = mul-le-mul_left (length rs) (omega (arith, b.expense)) in
        record {
          some = b.sound.risks;
          few = b.risks;
          conversion = b.sound.conversion_most;
          tax = b.sound.tax_most;
          shared = omega (arith, shared-le, b.total, e);
          maximum = LG-le;
        }
