-- Document 02, job 7: 'With marks compared as written, LH can't exceed LG: rounding down keeps their order. Show it for both mark kinds'.
-- A quotient rounded down does not fall as its dividend grows; so neither does a loss ratio mark's dollars, nor an entry ratio mark's, as
-- the mark grows. Where the minimum mark is at most the maximum mark, LH is at most LG, whatever SA is. Assumes nothing.
use mathlib.Core.List.{List}
use Prim.Native.Nat.{ℕ, zero, suc, ◌*◌, ◌/◌, ◌≤◌, ◌<◌}
use native.Mathlib.Omega.{arith}
use native.Mathlib.Nat.{div-zero, le-div_iff_mul-le, div-mul-le_self, mul-le-mul_right, le_trans}
use lib.ListN.{length}
use Rattle.plan.specs.Header.{Header}
use Rattle.plan.specs.Losses.{Losses, SA}
use Rattle.plan.specs.Marks.{LossRatio, loss_ratio_dollars, EntryRatio, entry_ratio_dollars, mark_of, dollars, LG, LH}

-- 'rounding down keeps their order': of any two numbers and any divisor; a quotient by 0 is 0
pub div-le-div-right : (d a b : ℕ) → a ≤ b → a / d ≤ b / d
div-le-div-right zero a b h = omega (arith, div-zero a, div-zero b)
div-le-div-right (suc k) a b h =
    let some : zero < suc k = omega arith in
    (le-div_iff_mul-le some).1 (le_trans (div-mul-le_self a (suc k)) h)

-- 'A loss ratio mark m gives m × P ÷ 1,000'
pub loss-ratio-order : (low high : LossRatio) (premium : ℕ) → low.thousandths ≤ high.thousandths
    → loss_ratio_dollars low premium ≤ loss_ratio_dollars high premium
loss-ratio-order low high premium h = div-le-div-right 1000 _ _ (mul-le-mul_right premium h)

-- 'An entry ratio mark m gives m × SA ÷ (1,000 × n)'
pub entry-ratio-order : (low high : EntryRatio) (n sa : ℕ) → low.thousandths ≤ high.thousandths
    → entry_ratio_dollars low n sa ≤ entry_ratio_dollars high n sa
entry-ratio-order low high n sa h = div-le-div-right (1000 * n) _ _ (mul-le-mul_right sa h)

-- two marks of one kind, of either
pub dollars-order : (kind low high premium n sa : ℕ) → low ≤ high
    → dollars (mark_of kind low) premium n sa ≤ dollars (mark_of kind high) premium n sa
dollars-order zero low high premium n sa h =
    loss-ratio-order (record { thousandths = low }) (record { thousandths = high }) premium h
dollars-order (suc k) low high premium n sa h =
    entry-ratio-order (record { thousandths = low }) (record { thousandths = high }) n sa h

-- 'LH can't exceed LG'
pub LH≤LG : (h : Header) (rs : List Losses) → h.minimum_mark ≤ h.maximum_mark → LH h rs ≤ LG h rs
unfolding LH LG
LH≤LG h rs = dollars-order h.mark_kind h.minimum_mark h.maximum_mark h.standard_premium (length rs) (SA rs)
