-- The charge of the 1965 table as the code gives it, as document 02's.
use Rattle.std.specs.Prelude.{◌≡◌, ℕ}
use Rattle.plan.specs.Charge as charge
use Rattle.plan.specs.Charge.{charge_double, thousandths}
use Rattle.table1965.specs.declared.charges.Charge1965.{Charge1965}

-- the charge of a column at r hundredths
pub record ChargeIs (column r : ℕ) (t : Charge1965) : Type 0 where
  pub charge_is : t.unrounded ≡ charge_double column r
  pub thousandths_are : t.thousandths ≡ thousandths r (charge_double column r)

-- what the code gives
abbrev pub charged_is : Charge1965 → charge.Charged
charged_is t = record { unrounded = t.unrounded; in_thousandths = t.thousandths }
