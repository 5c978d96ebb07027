-- Of the rows, so many are passed, and the parts that they take are summed.
use Rattle.guaranteed.proofs.Rows.{Cutting}
use Rattle.guaranteed.proofs.discounts.discount_of.Given as goal

abbrev pub invariant-loop-layer : goal.invariant-loop-layer
invariant-loop-layer l = Cutting l.fn.schedule.layers l.premium l.layer-index l.remains l.sum
