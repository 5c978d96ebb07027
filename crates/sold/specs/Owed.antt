-- The bounds within which what is to be paid is computed.
use Rattle.std.specs.Prelude.{ℕ, ◌^◌, ◌≤◌, ◌<◌}
use Rattle.plan.specs.Sizes.{most_tax, most_risks, most_group_losses}
use Rattle.plan.specs.Header.{expense_field}

pub record OwedBounds (risks tax expense total : ℕ) : Type 0 where
  pub few : risks ≤ most_risks
  pub tax_most : tax ≤ most_tax
  pub expense_lt : expense < 2 ^ expense_field.width
  pub total_most : total ≤ most_group_losses
