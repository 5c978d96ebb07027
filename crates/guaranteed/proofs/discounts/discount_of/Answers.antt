-- The parts so far and the last row's rest stay below 2 ^ 32, and rounding their sum once is the discount.
use Rattle.std.proofs.Common.{◌+◌, ◌*◌, ◌≤◌, get_or, take, arith, length-take}
use Rattle.guaranteed.proofs.Rows.{none, part-most, cutting-more, all-most, discounted}
use Rattle.guaranteed.proofs.discounts.discount_of.Goals as goal
use Rattle.guaranteed.proofs.discounts.discount_of.Goals.{After-min-part, After-loop-layer}

-- what a row takes, added
most : (c : After-min-part)
    → c.loop-layer.sum + c.min-part.result * (get_or (take 3 c.args.schedule.layers) c.loop-layer.layer-index none).rate ≤ 4194303000
most c = part-most (omega arith) c.loop-layer.invariant (omega (arith, length-take 3 c.args.schedule.layers)) c.min-part.ensures c.requires

pub overflow_mul-sum : goal.overflow_mul-sum
overflow_mul-sum c = omega (arith, most (goal.at.overflow_mul-sum c).After-min-part)

pub overflow_add-sum : goal.overflow_add-sum
overflow_add-sum c = omega (arith, most (goal.at.overflow_add-sum c).After-min-part)

pub loop-layer-preserved : goal.loop-layer-preserved
loop-layer-preserved c =
    cutting-more (omega arith) c.loop-layer.invariant (omega (arith, length-take 3 c.args.schedule.layers)) c.min-part.ensures

-- what the last row takes, added
all : (c : After-loop-layer) → c.loop-layer.sum + c.loop-layer.remains * (get_or c.args.schedule.layers 3 none).rate ≤ 4194303000
all c = all-most (omega arith) c.loop-layer.invariant (omega (arith, length-take 3 c.args.schedule.layers)) c.requires

pub overflow_mul-sum-2 : goal.overflow_mul-sum-2
overflow_mul-sum-2 c = omega (arith, all c)

pub overflow_add-sum-2 : goal.overflow_add-sum-2
overflow_add-sum-2 c = omega (arith, all (goal.at.overflow_add-sum-2 c).After-loop-layer)

pub overflow_add-result : goal.overflow_add-result
overflow_add-result c = omega (arith, all (goal.at.overflow_add-result c).After-loop-layer)

pub returns : goal.returns
returns c = discounted (omega arith) c.loop-layer.invariant (omega (arith, length-take 3 c.args.schedule.layers))
