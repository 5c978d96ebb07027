-- A turn puts the first risk of those left; when none are left, all are put.
use Rattle.std.proofs.Common.{ap}
use mathlib.Core.List.{List}
use Prim.Native.Nat.{ℕ}
use lib.ListN.{drop_of_length-le}
use Rattle.plan.specs.Risk.{slots_of_risks}
use Rattle.bits.proofs.Laws.{space-first, putting-as, putting-ends}
use Rattle.group.specs.Edition.{edition_number}
use Rattle.putting.specs.Claims.{claims_are}
use Rattle.putting.proofs.Risks.{next, goes_on}
use Rattle.putting.proofs.put_risks.Goals as goal

pub put_risk-next-requires : goal.put_risk-next-requires
put_risk-next-requires c =
    let p = c.split_at in
    space-first _ _
    (next c.loop-count.invariant c.loop-count-test.true p.result.0 p.result.1 c.from.ensures p.ensures.front p.ensures.back
    p.ensures.same_edition).space

pub loop-count-preserved : goal.loop-count-preserved
loop-count-preserved c =
    let p = c.split_at in
    goes_on c.loop-count.invariant c.loop-count-test.true p.result.0 p.result.1 c.from.ensures p.ensures.front p.ensures.back
    p.ensures.same_edition c.put_risk-next.ensures

pub returns : goal.returns
returns c =
    putting-ends
    (putting-as c.loop-count.invariant.putting
    (ap (λ (x : List ℕ). slots_of_risks (edition_number c.args.claims.edition) x (claims_are c.loop-count.claims_left))
    (drop_of_length-le c.args.counts.now c.loop-count-test.false)))
