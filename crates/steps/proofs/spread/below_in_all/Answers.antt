use Rattle.std.proofs.Common.{◌≡◌, ◌∙◌, ◌-◌, ◌*◌, map, sum, rules}
use Rattle.group.specs.declared.Losses.{Losses}
use Rattle.steps.proofs.Sums.{sum-limited}
use Rattle.steps.proofs.spread.below_in_all.Goals as goal

pub returns : goal.returns
returns c =
    let e : c.sum.result ≡ sum (map (λ (x : Losses). c.args.mark - c.args.scale * x.limited) c.args.losses.each.now) = search rules in
    e ∙ sum-limited (λ a. c.args.mark - c.args.scale * a) c.args.losses.each.now
