-- Bits and dollars are cut at the same place, so the claims are.
use Rattle.std.proofs.Common.{◌∙◌, sym, ap₂}
use Rattle.plan.specs.Claim.{claims_of}
use Rattle.laws.proofs.Claims.{take-claims-of, drop-claims-of}
use Rattle.putting.proofs.given.GivenClaims.split_at.Goals as goal

pub returns-clause-front : goal.returns-clause-front
returns-clause-front c =
    let a = c.args in
    ap₂ claims_of c.split_at.ensures.front c.split_at-2.ensures.front ∙ sym (take-claims-of a.k a.self.joined.now a.self.dollars.now)

pub returns-clause-back : goal.returns-clause-back
returns-clause-back c =
    let a = c.args in
    ap₂ claims_of c.split_at.ensures.back c.split_at-2.ensures.back ∙ sym (drop-claims-of a.k a.self.joined.now a.self.dollars.now)
