-- One claim, and the other behind it.
use Rattle.std.proofs.Common.{◌∷◌, [], arith, length-append, subst}
use Rattle.claims.specs.Claim.{claim_of, ClaimFits}
use Rattle.losses.specs.Singles.{ClaimRoom}
use Rattle.losses.proofs.Summing.{claim-room, room-as, summing-claim, summing-pair, added-as, added-by}
use Rattle.losses.proofs.Joining.{behind}
use Rattle.losses.proofs.singles.ClaimSumsSums.add_pair.Goals as goal

pub with_claim-one-requires : goal.with_claim-one-requires
with_claim-one-requires c = claim-room c.requires.0.3 (omega (arith, c.requires.0.2))

pub with_claim-requires : goal.with_claim-requires
with_claim-requires c =
    let x = c.claim_on-first.ensures in
    let few = length-append c.requires.0.0 (claim_of c.claim_on-first.result.value ∷ []) in
    let room : ClaimRoom c.with_claim-one.result =
    claim-room (summing-claim c.requires.0.3 x.fits c.with_claim-one.ensures) (omega (arith, c.requires.0.2, few)) in
    room-as room (omega arith) (omega arith) (omega (arith, room.bound, c.with_claim-one.ensures.most))

pub returns : goal.returns
returns c = λ cs limit few w.
    let x = c.claim_on-first.ensures in
    let y = c.claim_on-second.ensures in
    let one = c.with_claim-one.ensures in
    let two = c.with_claim.ensures in
    summing-pair w (subst (ClaimFits 0) x.first x.fits) (added-by x.first one) (subst (ClaimFits 0) (behind x y) y.fits)
    (added-by (behind x y)
    (added-as two (omega arith) (omega arith) (omega (arith, one.most)) (omega arith) (omega arith) (omega (arith, two.most, one.most))))
