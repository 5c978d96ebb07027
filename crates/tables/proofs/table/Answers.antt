-- Questions 1 to 10, then 14, then the two ratios of the file's group.
use Rattle.std.proofs.Common.{◌≡◌, refl, sym, ap, ◌∙◌, arith, List, ℕ, ◌≤◌, length, Ok}
use Rattle.std.proofs.lemmas.Result.{err_from_is_err_and}
use borrow.Author.Tests.{le-leb, lt-leb}
use Rattle.plan.specs.Sizes.{most_ratio}
use Rattle.plan.specs.Questions.{loss_questions}
use Rattle.plan.specs.Losses.{losses_in}
use Rattle.plan.specs.Table.{charge_sum, savings_sum}
use Rattle.plan.specs.Call.{given}
use Rattle.group.specs.Refusals.{verdict_is}
use Rattle.group.specs.Values.{losses_is, each_of}
use Rattle.group.proofs.Laws.{risks, alone}
use Rattle.steps.proofs.Laws.{of-slice}
use Rattle.groupfile.specs.Opening.{OpenedIs}
use Rattle.groupfile.specs.declared.opening.Opened.{Opened}
use Rattle.tables.proofs.Tabling.{AtHand, tabled, risks-few, entry-fits, half-fits, charge-sum, savings-sum}
use Rattle.tables.proofs.Tabling.{charge-bounds, savings-bounds, charge_is, savings_is, on-curve}
use Rattle.tables.proofs.table.Goals as goal
use Rattle.tables.proofs.table.Goals.{After-from, After-below_in_all-below}

-- ---- refusals

pub returns-in_err-verdict-clause-says : goal.returns-in_err-verdict-clause-says
returns-in_err-verdict-clause-says c =
    let a = c.args in
    let p = err_from_is_err_and c.from_residual.result c.from_residual.ensures.1 in
    rw (p.1, p.2) (alone (tabled a.file.now a.r (sym c.open_losses-verdict.ensures.verdict ∙ ap verdict_is c.in_err-verdict.was) refl))

pub returns-then-r-gt-MOST_RATIO-clause-says : goal.returns-then-r-gt-MOST_RATIO-clause-says
returns-then-r-gt-MOST_RATIO-clause-says c =
    let a = c.args in
    alone (tabled a.file.now a.r (sym c.open_losses-verdict.ensures.verdict ∙ ap verdict_is c.in_ok-verdict.was)
    (lt-leb _ _ c.if-r-gt-MOST_RATIO.true))

-- ---- past question 14

-- what is at hand
at-hand : {s : List ℕ} {r n : ℕ} {o : Opened Unit} → OpenedIs (loss_questions s) s o → o.verdict ≡ Ok tt → r ≤ most_ratio
    → n ≡ length (each_of o.losses) → AtHand s r n o.losses.limited (losses_is o.losses)
at-hand x e h count = record {
  passes = sym x.verdict ∙ ap verdict_is e;
  ratio = h;
  n_is = count ∙ risks x.losses;
  sa_is = x.losses.limited;
  each = x.losses.each;
}

-- once n and r are widened
widened : (c : After-from) → c.args.r ≤ most_ratio → AtHand c.args.file.now c.args.r c.from-n.result
    c.open_losses-verdict.result.losses.limited (losses_is c.open_losses-verdict.result.losses)
widened c h = at-hand c.open_losses-verdict.ensures c.in_ok-verdict.was h (c.from-n.ensures ∙ c.risks.ensures)

pub overflow_mul-mark : goal.overflow_mul-mark
overflow_mul-mark c =
    let p = (goal.at.overflow_mul-mark c).After-from in
    omega (arith, entry-fits (widened p c.if-r-gt-MOST_RATIO.false) c.from.ensures)

pub above_in_all-above-requires : goal.above_in_all-above-requires
above_in_all-above-requires c =
    let p = (goal.at.above_in_all-above-requires c).After-from in
    omega (arith, risks-few (widened p c.if-r-gt-MOST_RATIO.false))

pub below_in_all-below-requires : goal.below_in_all-below-requires
below_in_all-below-requires c =
    let p = (goal.at.below_in_all-below-requires c).After-from in
    (omega (arith, risks-few (widened p c.if-r-gt-MOST_RATIO.false)), entry-fits (widened p c.if-r-gt-MOST_RATIO.false) c.from.ensures)

pub overflow_mul-half-2 : goal.overflow_mul-half-2
overflow_mul-half-2 c =
    let p = (goal.at.overflow_mul-half-2 c).After-from in
    omega (arith, half-fits (widened p c.if-r-gt-MOST_RATIO.false))

pub overflow_mul-half-3 : goal.overflow_mul-half-3
overflow_mul-half-3 c =
    let p = (goal.at.overflow_mul-half-3 c).After-from in
    omega (arith, half-fits (widened p c.if-r-gt-MOST_RATIO.false))

pub overflow_mul-half-4 : goal.overflow_mul-half-4
overflow_mul-half-4 c =
    let p = (goal.at.overflow_mul-half-4 c).After-from in
    omega (arith, half-fits (widened p c.if-r-gt-MOST_RATIO.false))

-- and once both sums are made
module _ (c : After-below_in_all-below) (h : c.args.r ≤ most_ratio) where
  known : AtHand c.args.file.now c.args.r c.from-n.result c.open_losses-verdict.result.losses.limited
      (losses_is c.open_losses-verdict.result.losses)
  known = at-hand c.open_losses-verdict.ensures c.in_ok-verdict.was h (c.from-n.ensures ∙ c.risks.ensures)

  charge-is : c.above_in_all-above.result ≡ charge_sum (losses_in c.args.file.now) c.args.r
  charge-is = charge-sum known c.from.ensures (of-slice _ c.above_in_all-above.ensures c.lent.ensures)

  savings-is : c.below_in_all-below.result ≡ savings_sum (losses_in c.args.file.now) c.args.r
  savings-is = savings-sum known c.from.ensures (of-slice _ c.below_in_all-below.ensures c.lent-2.ensures)

pub thousandths_of-requires : goal.thousandths_of-requires
thousandths_of-requires c =
    let p = (goal.at.thousandths_of-requires c).After-below_in_all-below in
    let h = c.if-r-gt-MOST_RATIO.false in
    charge-bounds (known p h) (charge-is p h)

pub thousandths_of-requires-2 : goal.thousandths_of-requires-2
thousandths_of-requires-2 c =
    let p = (goal.at.thousandths_of-requires-2 c).After-below_in_all-below in
    let h = c.if-r-gt-MOST_RATIO.false in
    savings-bounds (known p h) (savings-is p h)

pub returns-clause-says : goal.returns-clause-says
returns-clause-says c =
    let p = (goal.at.returns-clause-says c).After-below_in_all-below in
    let h = c.if-r-gt-MOST_RATIO.false in
    let v = c.thousandths_of.ensures ∙ charge_is (known p h) (charge-is p h) in
    let w = c.thousandths_of-2.ensures ∙ savings_is (known p h) (savings-is p h) in
    alone ((λ i. given (record { charge = v i; savings = w i }))
    ∙ tabled c.args.file.now c.args.r (known p h).passes (le-leb _ _ (known p h).ratio))

pub returns-clause-curve : goal.returns-clause-curve
returns-clause-curve c =
    let p = (goal.at.returns-clause-curve c).After-below_in_all-below in
    let h = c.if-r-gt-MOST_RATIO.false in
    on-curve (known p h) (c.thousandths_of.ensures ∙ charge_is (known p h) (charge-is p h)) (c.thousandths_of-2.ensures ∙ savings_is (known p h) (savings-is p h))
