-- The code's values as those of document 01: the header values and the losses.
use Rattle.std.specs.Prelude.{◌≡◌, List, map, take}
use Rattle.plan.specs.Header as header
use Rattle.plan.specs.Losses as losses
use Rattle.plan.specs.Losses.{SL, SA}
use Rattle.plan.specs.Bounds.{GroupBounds}
use Rattle.group.specs.declared.Header.{Header}
use Rattle.group.specs.declared.Losses.{Losses}
use Rattle.group.specs.declared.GroupLosses.{GroupLosses}

abbrev pub header_is : Header → header.Header
header_is h = record {
  loss_limit = h.loss_limit;
  standard_premium = h.standard_premium;
  expense = h.expense;
  conversion = h.conversion;
  tax = h.tax;
  mark_kind = h.mark_kind;
  maximum_mark = h.maximum_mark;
  minimum_mark = h.minimum_mark;
}

-- L and A of risks, in order
abbrev pub losses_of : List Losses → List losses.Losses
losses_of xs = map (λ x. record { total = x.total; limited = x.limited }) xs

-- L and A of each of a group's risks, of the 255 entries that the code has
abbrev pub each_of : GroupLosses → List Losses
each_of g = take g.risks g.of_risks

-- the losses that the code has
abbrev pub losses_is : GroupLosses → List losses.Losses
losses_is g = losses_of (each_of g)

-- the code's losses are rs: L and A of each risk, SL and SA
pub record LossesAre (rs : List losses.Losses) (g : GroupLosses) : Type 0 where
  pub each : losses_is g ≡ rs
  pub total : g.total ≡ SL rs
  pub limited : g.limited ≡ SA rs

-- a group as the steps take it: its losses in order, and its numbers within their bounds
pub record GroupIs (h : Header) (g : GroupLosses) : Type 0 where
  pub losses : LossesAre (losses_is g) g
  pub bounds : GroupBounds (header_is h) (losses_is g)
