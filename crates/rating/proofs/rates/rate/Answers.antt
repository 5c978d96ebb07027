-- Questions 1 to 12, then 13, then the bills of the file's group, of which demand 3 holds.
use Rattle.std.proofs.Common.{refl, ◌*◌, ◌<◌, length, arith}
use Rattle.std.proofs.lemmas.Result.{err_from_is_err_and}
use borrow.Author.Tests.{lt-leb}
use Rattle.plan.specs.Header.{risk_count}
use Rattle.gates.proofs.Given.{gives, refuses, passes, risk-count, as-many}
use Rattle.rating.proofs.Answers.{verdict, refused_says, given-says, demanded}
use Rattle.rating.proofs.rates.rate.Goals as goal

pub returns-in_err-terms-clause-says : goal.returns-in_err-terms-clause-says
returns-in_err-terms-clause-says c =
    let s = c.args.file.now in
    let old = c.args.premiums.now in
    let p = err_from_is_err_and c.from_residual.result c.from_residual.ensures.1 in
    rw (p.1, p.2) (refused_says s old _ (verdict s old (refuses c.open_rating-terms.ensures c.in_err-terms.was) refl))

pub returns-then-premiums-terms-clause-says : goal.returns-then-premiums-terms-clause-says
returns-then-premiums-terms-clause-says c =
    let s = c.args.file.now in
    let old = c.args.premiums.now in
    let t = c.in_ok-terms.terms in
    let g = gives c.open_rating-terms.ensures c.in_ok-terms.was in
    let few : length old < 4 * risk_count s = omega (arith, c.if-premiums-terms.true, risk-count s t g) in
    refused_says s old _ (verdict s old (passes s t g) (lt-leb _ _ few))

pub bill_group-requires : goal.bill_group-requires
bill_group-requires c =
    let g = gives c.open_rating-terms.ensures c.in_ok-terms.was in
    omega (arith, as-many c.args.file.now c.in_ok-terms.terms g c.open_rating-terms.ensures.losses c.lent.ensures, c.if-premiums-terms.false)

pub returns-clause-says : goal.returns-clause-says
returns-clause-says c =
    let g = gives c.open_rating-terms.ensures c.in_ok-terms.was in
    given-says c.args.file.now c.in_ok-terms.terms g c.open_rating-terms.ensures.losses c.lent.ensures
    c.args.premiums.now _ c.if-premiums-terms.false c.bill_group.ensures.figures c.bill_group.ensures.put

pub returns-clause-demand3 : goal.returns-clause-demand3
returns-clause-demand3 c =
    let g = gives c.open_rating-terms.ensures c.in_ok-terms.was in
    demanded c.args.file.now c.in_ok-terms.terms g c.open_rating-terms.ensures.losses c.lent.ensures
    c.args.premiums.now _ c.if-premiums-terms.false c.bill_group.ensures.figures c.bill_group.ensures.put
