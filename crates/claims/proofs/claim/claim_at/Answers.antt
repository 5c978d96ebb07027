-- The claim on the front at the place is the one there, in either edition.
use Rattle.std.proofs.Common.{◌≡◌, sym, ap, ◌∙◌, ℕ, ◌+◌, ◌≤◌, arith, List}
use Rattle.plan.specs.Header.{edition_of}
use Rattle.plan.specs.Claim.{joined_width, claim_at}
use Rattle.laws.proofs.Claims.{joined-width-le, past-claim}
use Rattle.bits.specs.Take.{FrontIs}
use Rattle.bits.specs.declared.Front.{Front}
use Rattle.bits.specs.declared.Taken.{Taken}
use Rattle.group.specs.Edition.{edition_number}
use Rattle.group.specs.declared.edition.Edition.{Edition}
use Rattle.claims.specs.Claim.{ClaimOn, ClaimTaken}
use Rattle.claims.specs.declared.claim.FileClaim.{FileClaim}
use Rattle.claims.proofs.Taking.{width-by}
use Rattle.claims.proofs.claim.claim_at.Goals as goal

taken : (s : List ℕ) {b at : ℕ} → joined_width (edition_of s) ≡ b → {f : Front} → f.place.at ≡ at → FrontIs s 57 f → {r : Taken FileClaim Front}
    → ClaimOn f b r → ClaimTaken s at r
taken s {b} {at} e here a x =
    let narrow : b + 20 ≤ 57 = omega (arith, e, joined-width-le (edition_of s)) in
    record { is = x.is s 57 e narrow a ∙ ap (claim_at s) here; next = omega (arith, x.place, here, width-by s e, past-claim s at) }

pub returns-in-First : goal.returns-in-First
returns-in-First c =
    let e = sym c.args.file.now.lie ∙ ap (λ (x : Edition). joined_width (edition_number x)) c.in-First.is in
    taken c.args.file.now.bytes.now e c.front.ensures.0 c.front.ensures.1 c.claim_on.ensures

pub returns-in-Second : goal.returns-in-Second
returns-in-Second c =
    let e = sym c.args.file.now.lie ∙ ap (λ (x : Edition). joined_width (edition_number x)) c.in-Second.is in
    taken c.args.file.now.bytes.now e c.front-in-Second.ensures.0 c.front-in-Second.ensures.1 c.claim_on-in-Second.ensures
