-- A turn puts the next bill, 32 bits from a byte's start on, and adds it to the sum.
use Rattle.std.proofs.Common.{◌≡◌, ap, ◌∙◌, ℕ, ◌^◌, ◌<◌, arith, get_or}
use Rattle.laws.proofs.Fields.{Bytes}
use Rattle.group.specs.Values.{losses_of}
use Rattle.rating.specs.Bills.{bills_of}
use Rattle.rating.proofs.Billing.{bill-at, fits, billing-starts, next-put, billing-more, bills-summed, bills-put}
use Rattle.rating.proofs.rates.bill_group.Goals as goal
use Rattle.rating.proofs.rates.bill_group.Goals.{After-from-bill}

pub loop-risk-init : goal.loop-risk-init
loop-risk-init c =
    let bytes : Bytes c.args.out.now = λ i. omega (arith, c.type_inv.out i) in
    record { billing = billing-starts c.args.terms c.args.losses.each.now c.args.out.now c.args.losses.few c.requires; bytes = bytes; first = bytes }

-- the next bill
module _ (c : After-from-bill) where
  next : c.from-bill.result ≡ get_or (bills_of c.args.terms (losses_of c.args.losses.each.now)) c.loop-risk.risk-index 0
  next = c.from-bill.ensures ∙ c.bill_of.ensures ∙ bill-at c.args.terms c.args.losses.each.now c.loop-risk.risk-index _ c.loop-risk-test.true

  small : c.from-bill.result < 2 ^ 31
  small = rw (c.from-bill.ensures, c.bill_of.ensures) (fits c.args.terms _)

pub put_whole-place-requires : goal.put_whole-place-requires
put_whole-place-requires c =
    let p = (goal.at.put_whole-place-requires c).After-from-bill in
    let w = c.loop-risk.invariant.billing in
    let space = (next-put c.args.terms _ c.args.out.now c.args.losses.few c.requires w c.loop-risk-test.true (next p)).space in
    record {
      few = omega arith;
      begins = w.whole;
      next = omega (arith, space.reach);
      within = omega (arith, space.within);
      fits = space.fitting.0;
    }

pub overflow_add-billed : goal.overflow_add-billed
overflow_add-billed c =
    let p = (goal.at.overflow_add-billed c).After-from-bill in
    omega (arith, c.loop-risk.invariant.billing.billed_most, small p, c.loop-risk-test.true, c.args.losses.few)

pub loop-risk-preserved : goal.loop-risk-preserved
loop-risk-preserved c =
    let p = (goal.at.loop-risk-preserved c).After-from-bill in
    record {
      billing =
          billing-more c.args.terms _ c.args.out.now c.args.losses.few c.requires c.loop-risk.invariant.billing c.loop-risk-test.true (next p) (small p)
          (c.put_whole-place.ensures.next, c.put_whole-place.ensures.put);
      bytes = λ i. omega (arith, c.type_inv.out i);
      first = c.loop-risk.invariant.first;
    }

pub returns-clause-figures : goal.returns-clause-figures
returns-clause-figures c =
    ap (λ (b : ℕ). record { risks = c.args.terms.risks; basic = c.args.terms.basic; excess = c.args.terms.excess; billed = b })
    (bills-summed c.args.terms _ c.args.out.now c.args.losses.few c.requires c.loop-risk.invariant.billing c.loop-risk-test.false)

pub returns-clause-put : goal.returns-clause-put
returns-clause-put c =
    bills-put c.args.terms _ c.args.out.now c.args.losses.few c.requires c.loop-risk.invariant.billing c.loop-risk-test.false
    c.loop-risk.invariant.first c.loop-risk.invariant.bytes
