-- The code's terms carry their bounds, and terms that are the plan's are within them. Assumes nothing.
use Rattle.plan.specs.Bounds.{TermsBounds}
use Rattle.steps.specs.Terms.{terms_is}
use Rattle.steps.specs.declared.bill.Terms.{Terms}

pub within : (t : Terms) → TermsBounds (terms_is t)
within t = record {
  some = t.some;
  few = t.few;
  conversion = t.conversion_most;
  tax = t.tax_most;
  shared = t.shared;
  maximum = t.maximum_most;
}
