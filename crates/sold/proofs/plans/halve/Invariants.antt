-- The trials made so far are so many halvings, and no more than are given. The measure is the trials to come.
use Rattle.std.proofs.Common.{◌-◌, ◌≤◌}
use Rattle.laws.proofs.Halvings.{Halving}
use Rattle.sold.specs.PremiumPlans.{reached_by}
use Rattle.sold.proofs.plans.halve.Given as goal

abbrev pub invariant-loop-made : goal.invariant-loop-made
invariant-loop-made l =
    (l.made ≤ l.trials) × Halving (reached_by l.target) l.made l.best l.from

abbrev pub decreases-loop-made : goal.decreases-loop-made
decreases-loop-made l = l.trials - l.made
