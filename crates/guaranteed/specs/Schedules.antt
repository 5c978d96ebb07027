-- The code's rows as document 02's layers, and the bounds within which a discount is computed.
use Rattle.std.specs.Prelude.{◌≡◌, true, List, map, ℕ, ◌^◌, ◌<◌}
use Rattle.plan.specs.Header.{standard_premium_field}
use Rattle.plan.specs.Discount as discount
use Rattle.plan.specs.Discount.{rates_pass}
use Rattle.guaranteed.specs.declared.schedule.Layer.{Layer}

abbrev pub layer_is : Layer → discount.Layer
layer_is r = record { width = r.width; rate = r.rate }

-- 'A premium discount schedule has four layers': the rows of the array, in order
abbrev pub layers_of : List Layer → List discount.Layer
layers_of rows = map layer_is rows

-- a schedule that passes question 16, and a premium that fits its width in the file
pub record Discountable (ls : List discount.Layer) (premium : ℕ) : Type 0 where
  pub rates : rates_pass ls ≡ true
  pub fits : premium < 2 ^ standard_premium_field.width
