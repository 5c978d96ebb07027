-- The bounds within which a mark's dollars are computed.
use Rattle.std.specs.Prelude.{ℕ, ◌*◌, ◌^◌, ◌≤◌, ◌<◌}
use Rattle.plan.specs.Sizes.{most_risks, most_mark, most_risk_losses}
use Rattle.plan.specs.Header.{standard_premium_field}
use Rattle.steps.specs.declared.marks.Mark.{Mark}
use Rattle.steps.specs.declared.marks.Mark.TheVariants.{OfPremium, OfLosses}

-- a mark's thousandths
abbrev pub thousandths_of : Mark → ℕ
thousandths_of (OfPremium m) = m.0
thousandths_of (OfLosses m) = m.0

pub record MarkBounds (m : Mark) (premium n sa : ℕ) : Type 0 where
  pub mark : thousandths_of m ≤ most_mark
  pub premium_most : premium < 2 ^ standard_premium_field.width
  pub some : 0 < n
  pub risks : n ≤ most_risks
  pub limited : sa ≤ most_risk_losses * n
