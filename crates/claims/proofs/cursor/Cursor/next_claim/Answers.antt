-- The claim taken is the one at the place, and the place handed on is where it ends.
use Rattle.std.proofs.Common.{◌+◌, ◌-◌, ◌*◌, ◌≤◌, arith}
use Rattle.plan.specs.Header.{edition_of}
use Rattle.laws.proofs.Claims.{past-claim, width-le}
use Rattle.claims.proofs.cursor.Cursor.next_claim.Goals as goal

pub claim_at-claim-requires : goal.claim_at-claim-requires
claim_at-claim-requires c = record { inside = omega (arith, c.args.self.within.inside); ends = omega (arith, c.args.self.within.ends) }

pub invariant_of-result : goal.invariant_of-result
invariant_of-result c =
    let s = c.args.file.now.bytes.now in
    let a = c.args.self in
    let most : c.claim_at-claim.result.next.place.at + 21 * (a.left - 1) ≤ a.place.at + 21 * a.left =
    omega (arith, c.claim_at-claim.ensures.next, past-claim s a.place.at, width-le (edition_of s), c.requires) in
    record { within = record { inside = omega (arith, most, a.within.inside); ends = omega (arith, most, a.within.ends) } }

pub returns : goal.returns
returns c =
    let x = c.claim_at-claim.ensures in
    record { is = x.is; place = x.next; left = omega (arith, c.requires) }
