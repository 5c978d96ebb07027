-- Step 2: 'The marks become whole dollars, rounded down. A loss ratio mark m gives m × P ÷ 1,000. An entry ratio mark m gives
-- m × SA ÷ (1,000 × n). Document 002 uses both measures of the same curve, and a loss ratio keeps its own type, as does an
-- entry ratio, until it is dollars. LG comes from the maximum mark, LH from the minimum.'
use Rattle.std.specs.Prelude.{List, ℕ, zero, suc, ◌*◌, ◌/◌, length}
use Rattle.plan.specs.Header.{Header}
use Rattle.plan.specs.Losses.{Losses, SA}

-- limited losses as a ratio of the standard premium: document 002's r, 'an index of the premium x'
pub record LossRatio : Type 0 where
  pub thousandths : ℕ

-- limited losses as a ratio of the group's mean limited losses, SA ÷ n: document 002's r′, 'an index of the expected loss
-- ratio E'; 001's entry ratio
pub record EntryRatio : Type 0 where
  pub thousandths : ℕ

-- 'A loss ratio mark m gives m × P ÷ 1,000'
abbrev pub loss_ratio_dollars : LossRatio → ℕ → ℕ
loss_ratio_dollars m p = m.thousandths * p / 1000

-- 'An entry ratio mark m gives m × SA ÷ (1,000 × n)'; n is at least 1 by question 7
abbrev pub entry_ratio_dollars : EntryRatio → ℕ → ℕ → ℕ
entry_ratio_dollars m n sa = m.thousandths * sa / (1000 * n)

-- a mark is one of the two
pub data Mark : Type 0 where
  of_premium : LossRatio → Mark
  of_losses : EntryRatio → Mark

-- 'mark kind 1: 0 loss ratio, 1 entry ratio'; one bit holds no other, and question 15 lets Write take no other
abbrev pub mark_of : ℕ → ℕ → Mark
mark_of zero m = of_premium (record { thousandths = m })
mark_of (suc k) m = of_losses (record { thousandths = m })

-- a mark's whole dollars, in a group of n risks with standard premium p and limited losses sa
abbrev pub dollars : Mark → ℕ → ℕ → ℕ → ℕ
dollars (of_premium m) p n sa = loss_ratio_dollars m p
dollars (of_losses m) p n sa = entry_ratio_dollars m n sa

module _ (h : Header) (rs : List Losses) where
  -- 'LG comes from the maximum mark': the L_G of formula (2)
  unfoldable pub LG : ℕ
  LG = dollars (mark_of h.mark_kind h.maximum_mark) h.standard_premium (length rs) (SA rs)

  -- 'LH from the minimum': the L_H of formula (3)
  unfoldable pub LH : ℕ
  LH = dollars (mark_of h.mark_kind h.minimum_mark) h.standard_premium (length rs) (SA rs)
