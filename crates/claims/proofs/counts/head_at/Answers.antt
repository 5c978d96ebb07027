-- The count, and in edition 2 the bit behind it, are on one front.
use Rattle.std.proofs.Common.{arith, ◌-◌, ◌≡◌, ℕ, sym, ap, ap₂, ◌∙◌, lit≤, List}
use Rattle.plan.specs.Field.{field}
use Rattle.plan.specs.Header.{edition_of}
use Rattle.plan.specs.Accidents.{opens}
use Rattle.plan.specs.Claim.{joins, joined_width, claim_at}
use Rattle.plan.specs.Risk.{count_width, count_at, first_claim, claims_at}
use Rattle.group.specs.Edition.{edition_number}
use Rattle.group.specs.declared.edition.Edition.{Edition}
use Rattle.laws.proofs.Claims.{joined_at}
use Rattle.laws.proofs.Risks.{first-claim}
use Rattle.bits.specs.Take.{FrontIs}
use Rattle.claims.proofs.Opening.{single-opens, joined-opens}
use Rattle.claims.proofs.counts.head_at.Goals as goal
use Rattle.claims.proofs.counts.head_at.Goals.{in-First, in-Second}

-- a field of the count's width is the count
count-is : (s : List ℕ) (at : ℕ) {p n : ℕ} → n ≡ field s p count_width → p ≡ at → n ≡ count_at s at
unfolding count_at
count-is s at e place = e ∙ ap (λ (x : ℕ). field s x count_width) place

pub returns : goal.returns
returns c =
    let a = c.args in
    let s = a.file.now.bytes.now in
    let at = a.place.at in
    let front = c.front-front.ensures in
    let count = c.take-count.ensures in
    let first : c.take-count.result.next.place.at ≡ first_claim at = omega (arith, count.place, front.0, first-claim at) in
    let behind : FrontIs s (57 - count_width) c.take-count.result.next = count.rest s 57 (lit≤ tt) front.1 in
    let is = count-is s at (count.is s 57 (lit≤ tt) front.1) front.0 in
    let opens-is : c.match-file.first_opens ≡ opens (claims_at s at) =
    elim c.match-file.branch [
      | in-First w ↦
          let none : joined_width (edition_of s) ≡ 0 = sym a.file.now.lie ∙ ap (λ (e : Edition). joined_width (edition_number e)) w.in-First.is in
          w.first_opens-is ∙ sym (single-opens s (first_claim at) (count_at s at) none)
      | in-Second w ↦
          let one : 1 ≡ joined_width (edition_of s) = ap (λ (e : Edition). joined_width (edition_number e)) (sym w.in-Second.is) ∙ a.file.now.lie in
          let bit : w.take-bit.result.value ≡ joins (claim_at s (first_claim at)) =
          w.take-bit.ensures.is s (57 - count_width) (lit≤ tt) behind ∙ ap₂ (field s) first one ∙ sym (joined_at s (first_claim at)) in
          w.first_opens-is ∙ joined-opens s (first_claim at) (count_at s at) is bit
    ] in
    record { count = is; first = first; first_opens = opens-is }
