-- Table: 'file and an entry ratio r in hundredths, 0 to 600. The charge is the sum over risks of what 100 × n × A has above
-- r × SA, divided by 100 × n × SA. The savings use what it lacks. Both come in thousandths, nearest, half upward.'
-- The charge is document 002's excess pure premium ratio of a group, y = Σ(L − rx) ÷ ΣL over positive terms only, with A for L
-- and r × SA ÷ (100 × n) for rx; document 003 names it the charge.
use Rattle.std.specs.Prelude.{List, ℕ, ◌*◌, length}
use Rattle.plan.specs.Arithmetic.{sum_of, above, below, nearest}
use Rattle.plan.specs.Losses.{Losses, SA}

module _ (rs : List Losses) (r : ℕ) where
  -- the numerator of the charge
  unfoldable pub charge_sum : ℕ
  charge_sum = sum_of (λ x. above (100 * length rs * x.limited) (r * SA rs)) rs

  -- the numerator of the savings
  unfoldable pub savings_sum : ℕ
  savings_sum = sum_of (λ x. below (100 * length rs * x.limited) (r * SA rs)) rs

  -- what both are divided by, above 0 by questions 7 and 10
  abbrev pub ratio_divisor : ℕ
  ratio_divisor = 100 * length rs * SA rs

  -- the charge X in thousandths
  unfoldable pub charge : ℕ
  charge = nearest (1000 * charge_sum) ratio_divisor

  -- the savings S in thousandths; by formula (9) of document 001, S = X + r − 1, savings − charge is 10 × r − 1,000
  unfoldable pub savings : ℕ
  savings = nearest (1000 * savings_sum) ratio_divisor
