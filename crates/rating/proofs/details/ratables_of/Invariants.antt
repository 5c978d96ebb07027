-- The invariant: K of the risks passed is kept.
use Rattle.std.proofs.Common.{◌≡◌, map, take}
use Rattle.plan.specs.Ratable.{clamp}
use Rattle.group.specs.declared.Losses.{Losses}
use Rattle.rating.proofs.details.ratables_of.Given as goal

abbrev pub invariant-loop-risk : goal.invariant-loop-risk
invariant-loop-risk l =
    l.ratables.items ≡ map (λ (x : Losses). clamp l.minimum l.maximum x.limited) (take l.risk-index l.losses.each.now)
