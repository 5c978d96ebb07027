-- M and Q: the bounds within which they are computed, and M as the code has it.
use Rattle.std.specs.Prelude.{◌≡◌, false, ℕ, ◌*◌, ◌^◌, ◌≤◌, ◌<◌, ℤ, pos, Option, Some, None}
use Rattle.std.specs.Int.Signed.{non_neg}
use Rattle.plan.specs.Header.{expense_field}
use Rattle.plan.specs.Sizes.{least_conversion, most_conversion, most_risks, most_group_losses, most_dollars}

pub record BasicBounds (n e c sl sx ss : ℕ) : Type 0 where
  pub risks : n ≤ most_risks
  pub expense : e < 2 ^ expense_field.width
  pub conversion : least_conversion ≤ c
  pub conversion_most : c ≤ most_conversion
  pub total : sl ≤ most_group_losses
  pub cut_off : sx ≤ most_group_losses
  pub made_up : ss ≤ most_dollars * most_risks

-- the code's amount is the whole number z, or z is negative
abbrev pub basic_is : Option ℕ → ℤ → Type 0
basic_is (Some m) z = pos m ≡ z
basic_is None z = non_neg z ≡ false

pub record ExcessBounds (c total limited : ℕ) : Type 0 where
  pub conversion_most : c ≤ most_conversion
  pub limited_most : limited ≤ total
  pub total_most : total ≤ most_group_losses
