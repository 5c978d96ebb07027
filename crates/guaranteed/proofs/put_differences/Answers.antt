-- A turn puts the next bill less guaranteed cost, and adds it to the sum, which fits.
use Rattle.std.proofs.Common.{◌≡◌, sym, ◌∙◌, subst, ℕ, ◌+◌, ◌^◌, ◌<◌, ℤ, pos, ◌-ℤ◌, get_or, set, w64, to_z, of_z, to_z-of_z, arith}
use Rattle.group.specs.Values.{losses_of}
use Rattle.rating.specs.Bills.{bills_of}
use Rattle.rating.proofs.Billing.{fits, bill-at}
use Rattle.guaranteed.proofs.Differencing.{Differencing, differencing-starts, differencing-more, sum_fits, differences-summed, differences-put}
use Rattle.guaranteed.proofs.put_differences.Goals as goal
use Rattle.guaranteed.proofs.put_differences.Goals.{After-difference_of-difference}

pub loop-i-init : goal.loop-i-init
loop-i-init c = differencing-starts c.args.terms c.args.losses.each.now c.args.cost c.args.out.now c.args.losses.few c.requires

module _ (c : goal.After-difference_of-difference) where
  -- the next bill is that of the next risk
  is : c.bill_of-bill.result ≡ get_or (bills_of c.args.terms (losses_of c.args.losses.each.now)) c.loop-i.i 0
  is = c.bill_of-bill.ensures ∙ bill-at c.args.terms c.args.losses.each.now c.loop-i.i _ c.loop-i-test.true

  small : c.bill_of-bill.result < 2 ^ 31
  small =
      subst (λ (b : ℕ). b < 2 ^ 31) (sym c.bill_of-bill.ensures)
      (fits c.args.terms _)

  difference-is : to_z w64 (of_z w64 c.difference_of-difference.result) ≡ pos c.bill_of-bill.result -ℤ pos c.args.cost
  difference-is = to_z-of_z {w = w64} (record { sfits = c.difference_of-difference.type_inv }) ∙ c.difference_of-difference.ensures

pub sum_of-so_far-requires : goal.sum_of-so_far-requires
sum_of-so_far-requires c = record {
  sfits =
      sum_fits c.args.terms c.args.losses.each.now c.args.cost c.args.out.now c.args.losses.few c.requires c.loop-i.invariant c.loop-i-test.true (is c) (small c) (difference-is c)
      (omega (arith, c.ranges.cost));
}

pub loop-i-preserved : goal.loop-i-preserved
loop-i-preserved c =
    let p = (goal.at.loop-i-preserved c).After-difference_of-difference in
    subst
    (λ (z : ℤ). Differencing (bills_of c.args.terms (losses_of c.args.losses.each.now)) c.args.cost c.args.out.now (c.loop-i.i + 1) z
    (set c.loop-i.out c.loop-i.i (to_z w64 (of_z w64 c.difference_of-difference.result))))
    (sym (to_z-of_z {w = w64} (record { sfits = c.sum_of-so_far.type_inv }) ∙ c.sum_of-so_far.ensures))
    (differencing-more c.args.terms c.args.losses.each.now c.args.cost c.args.out.now c.args.losses.few c.requires c.loop-i.invariant c.loop-i-test.true (is p) (small p) (difference-is p))

pub returns-clause-summed : goal.returns-clause-summed
returns-clause-summed c =
    differences-summed c.args.terms c.args.losses.each.now c.args.cost c.args.out.now c.args.losses.few c.requires c.loop-i.invariant
    c.loop-i-test.false

pub returns-clause-put : goal.returns-clause-put
returns-clause-put c =
    differences-put c.args.terms c.args.losses.each.now c.args.cost c.args.out.now c.args.losses.few c.requires c.loop-i.invariant
    c.loop-i-test.false
