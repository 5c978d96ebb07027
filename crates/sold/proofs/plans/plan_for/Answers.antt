-- Questions 1 to 10, then 22, then 23 and the trials by the file's own terms; and what holds of each answer, which is document 02's.
use Rattle.std.proofs.Common.{◌≡◌, refl, sym, ap, ◌∙◌, arith, Err}
use borrow.Author.Tests.{lt-leb}
use Rattle.std.proofs.lemmas.Result.{err_from_is_err_and}
use Rattle.plan.specs.SoldOnPremiums.{plan_for}
use Rattle.group.specs.Refusals.{answer_is, verdict_is}
use Rattle.group.proofs.Laws.{alone}
use Rattle.group.specs.Values.{losses_of}
use Rattle.group.specs.declared.Refusal.TheVariants.{PremiumOrder}
use Rattle.sold.specs.PremiumPlans.{plan_is}
use Rattle.sold.proofs.Selling.{AtHand, sold-by, planned, excess-bounds, owed-bounds, excess-le, each, found}
use Rattle.sold.proofs.plans.plan_for.Goals as goal
use Rattle.sold.proofs.plans.plan_for.Goals.{In_ok-verdict}

-- what is at hand past question 10
at-hand : (c : In_ok-verdict) → AtHand c.args.file.now c.open_losses-verdict.result.header c.open_losses-verdict.result.losses
at-hand c =
    let x = c.open_losses-verdict.ensures in
    record { passes = sym x.verdict ∙ ap verdict_is c.in_ok-verdict.was; header = x.header; losses = x.losses }

pub returns-then-minimum-maximum : goal.returns-then-minimum-maximum
returns-then-minimum-maximum c =
    let a = c.args in
    let x = at-hand (goal.at.returns-then-minimum-maximum c).In_ok-verdict in
    let e = planned a.file.now a.maximum a.minimum a.trials x.passes (lt-leb a.minimum a.maximum c.if-minimum-maximum.true) in
    record { says = alone e; sold = sold-by (Err PremiumOrder) _ _ _ _ e }

pub excess_of-requires : goal.excess_of-requires
excess_of-requires c = rw c.from.ensures (excess-bounds (at-hand (goal.at.excess_of-requires c).In_ok-verdict))

pub owed_of-requires : goal.owed_of-requires
owed_of-requires c = owed-bounds (at-hand (goal.at.owed_of-requires c).In_ok-verdict) c.risks-risks.result c.risks-risks.ensures

pub invariant_of-target : goal.invariant_of-target
invariant_of-target c =
    let x = at-hand (goal.at.invariant_of-target c).In_ok-verdict in
    let b = owed-bounds x c.risks-risks.result c.risks-risks.ensures in
    record {
      few = b.few;
      conversion_most = (excess-bounds x).conversion_most;
      tax_most = b.tax_most;
      excess_most = omega (arith, rw c.from.ensures at c.excess_of.ensures, excess-le x);
    }

pub invariant_of-target-2 : goal.invariant_of-target-2
invariant_of-target-2 c =
    let x = at-hand (goal.at.invariant_of-target-2 c).In_ok-verdict in
    record { limited_most = each x c.lent.result.each.now (ap losses_of c.lent.ensures) }

pub returns : goal.returns
returns c =
    let x = at-hand (goal.at.returns c).In_ok-verdict in
    let e = found x (record {
      risks = c.risks-risks.ensures;
      conversion = refl;
      tax = refl;
      excess = rw c.from.ensures at c.excess_of.ensures;
      maximum = refl;
      minimum = refl;
      each = ap losses_of c.lent.ensures;
      owed_is = c.owed_of.ensures;
    }) c.args.trials c.search.result c.if-minimum-maximum.false c.search.ensures in
    record { says = alone e; sold = sold-by c.search.result _ _ _ _ e }

pub returns-in_err-verdict : goal.returns-in_err-verdict
returns-in_err-verdict c =
    let a = c.args in
    let p = err_from_is_err_and c.from_residual.result c.from_residual.ensures.1 in
    let e : answer_is plan_is c.from_residual.result ≡ plan_for a.file.now a.maximum a.minimum a.trials =
    rw (p.1, p.2)
    (planned a.file.now a.maximum a.minimum a.trials (sym c.open_losses-verdict.ensures.verdict ∙ ap verdict_is c.in_err-verdict.was) refl) in
    record { says = alone e; sold = sold-by c.from_residual.result _ _ _ _ e }
