-- A premium before it is held is at most 1.36e18, which fits 64 bits.
use Rattle.std.proofs.Common.{arith, ℕ, ◌+◌, ◌*◌, ◌≤◌}
use Rattle.std.proofs.Math.Nat.{mul-le-mul}
use Rattle.plan.specs.Sizes.{most_risk_losses}
use Rattle.plan.specs.SoldOnPremiums.{most_basic, premium_of}
use Rattle.sold.specs.Premiums.{plan_terms_is}
use Rattle.sold.specs.declared.premiums.PlanTerms.{PlanTerms}
use Rattle.sold.proofs.premiums.PlanTerms.held_premium.Goals as goal

premium-le : (t : PlanTerms) {basic limited : ℕ} → basic ≤ most_basic → limited ≤ most_risk_losses
    → premium_of (plan_terms_is t) basic limited ≤ 20000 * 67648816125000
premium-le t {basic} {limited} h l =
    let shared : 1000 * t.risks * basic ≤ 267386625000 = omega (arith, mul-le-mul t.few h) in
    let losses : t.risks * t.conversion * limited ≤ 33690714750000 = omega (arith, mul-le-mul (mul-le-mul t.few t.conversion_most) l) in
    let sum : 1000 * t.risks * basic + t.excess + t.risks * t.conversion * limited ≤ 67648816125000 = omega (arith, shared, losses, t.excess_most) in
    mul-le-mul t.tax_most sum

pub overflow_mul-premium : goal.overflow_mul-premium
overflow_mul-premium c =
    simp (c.from-n.ensures, c.from.ensures, c.from-2.ensures, c.from-3.ensures, c.from-4.ensures)
    (omega (arith, premium-le c.args.self.now c.args.basic.most c.requires))
