-- The thousandths of the charge, and 1 − r where they are below it.
use Rattle.std.proofs.Common.{◌≡◌, ◌∙◌, arith}
use Rattle.plan.specs.Doubles.{◌+ᵈ◌, ◌*ᵈ◌}
use Rattle.plan.specs.Charge.{charge_double, greatest, raised, thousandths}
use Rattle.table1965.proofs.Literals.{half-thousandth, thousand}
use Rattle.table1965.proofs.charges.charge_at.Goals as goal
use Rattle.table1965.proofs.charges.charge_at.Goals.{After-greatest-n}

-- what the call of `greatest` gives, in the definitions' words
given : (c : After-greatest-n)
    → c.greatest-n.result ≡ greatest 1000 (raised (charge_double c.args.column.hundredths c.args.hundredths))
given c =
    let x = c.unrounded-charge.ensures in
    c.greatest-n.ensures ∙ (λ i. greatest 1000 ((x i +ᵈ half-thousandth i) *ᵈ thousand i))

pub returns : goal.returns
unfolding thousandths
returns c = record {
  charge_is = c.unrounded-charge.ensures;
  thousandths_are = omega (arith, given (goal.at.returns c).After-greatest-n, c.max.ensures, c.saturating_sub.ensures);
}
