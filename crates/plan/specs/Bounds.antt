-- What passed questions and the file's widths say of a group's numbers: what the steps ask for and what they keep.
use Rattle.std.specs.Prelude.{ℕ, ◌+◌, ◌*◌, ◌^◌, ◌≤◌, ◌<◌, List, nat_abs, length}
use Rattle.plan.specs.Sizes.{least_conversion, most_conversion, least_tax, most_tax, most_risks, most_risk_losses, most_mark, most_dollars, most_shared}
use Rattle.plan.specs.Header.{Header, standard_premium_field, expense_field}
use Rattle.plan.specs.Losses.{Losses, SL, SA}
use Rattle.plan.specs.Premium.{Terms}

-- questions 3 to 7, with 18 in its place, as facts
pub record HeaderSound (h : Header) (n : ℕ) : Type 0 where
  -- 3
  pub premium : 1 ≤ h.standard_premium
  -- 4
  pub conversion : least_conversion ≤ h.conversion
  pub conversion_most : h.conversion ≤ most_conversion
  -- 5
  pub tax : least_tax ≤ h.tax
  pub tax_most : h.tax ≤ most_tax
  -- 6
  pub maximum : h.maximum_mark ≤ most_mark
  pub minimum : h.minimum_mark ≤ most_mark
  -- 18
  pub marks_in_order : h.minimum_mark ≤ h.maximum_mark
  -- 7
  pub risks : 1 ≤ n

-- a group that passes 3 to 7, with numbers within the file's widths and A at most L
pub record GroupBounds (h : Header) (rs : List Losses) : Type 0 where
  pub sound : HeaderSound h (length rs)
  pub premium : h.standard_premium < 2 ^ standard_premium_field.width
  pub expense : h.expense < 2 ^ expense_field.width
  pub risks : length rs ≤ most_risks
  pub limited : SA rs ≤ SL rs
  pub total : SL rs ≤ most_risk_losses * length rs

-- terms by which every bill fits 32 bits; M is taken as an amount, since it is at least 0 by question 12
pub record TermsBounds (t : Terms) : Type 0 where
  pub some : 1 ≤ t.risks
  pub few : t.risks ≤ most_risks
  pub conversion : t.conversion ≤ most_conversion
  pub tax : t.tax ≤ most_tax
  pub shared : nat_abs t.basic + t.excess ≤ most_shared * t.risks
  pub maximum : t.maximum ≤ most_dollars
