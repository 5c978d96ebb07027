-- A turn adds the pair of claims on the front at the place; an odd claim behind the pairs is added from a front of its
-- own. Then no claim follows.
use Rattle.std.proofs.Common.{◌≡◌, ap, ◌∙◌, subst, ℕ, ◌+◌, ◌*◌, ◌/◌, ◌≤◌, ◌<◌, arith, List}
use Rattle.plan.specs.Header.{edition_of}
use Rattle.plan.specs.Claim.{Claim, joined_width, claim_at, past_claim, claims_from, past_claims}
use Rattle.laws.proofs.Claims.{joined-width-le, length-claims, past-claim, past-claims-by}
use Rattle.bits.specs.Take.{FrontIs}
use Rattle.bits.proofs.Laws.{front-is, ahead_past}
use Rattle.bits.specs.declared.BitPlace.{BitPlace}
use Rattle.bits.specs.declared.Front.{Front}
use Rattle.bits.specs.declared.Taken.{Taken}
use Rattle.claims.specs.Claim.{ClaimFits, ClaimOn, claim_of, first_on, second_on}
use Rattle.claims.specs.Run.{ClaimsAre}
use Rattle.claims.specs.Sums.{LossesOf}
use Rattle.claims.specs.declared.claim.FileClaim.{FileClaim}
use Rattle.claims.specs.declared.run.ClaimRun.{ClaimRun}
use Rattle.claims.proofs.Reach.{next-reach}
use Rattle.claims.proofs.Taking.{width-by, claim-by, one-more, two-more}
use Rattle.claims.proofs.sums.run_of.Goals as goal

-- an edition has one bit at most
one-bit : (s : List ℕ) {b : ℕ} → joined_width (edition_of s) ≡ b → b ≤ 1
one-bit s e = omega (arith, joined-width-le (edition_of s))

-- pair k has two claims of n
pair-within : (n k : ℕ) → k < n / 2 → 2 * k + 2 ≤ n
pair-within n k h = omega arith

-- the claims on the front at a place
module _ (s : List ℕ) {b : ℕ} (e : joined_width (edition_of s) ≡ b) {p : ℕ} {f : Front} (here : f.place.at ≡ p) (a : FrontIs s 57 f) where
  front-claim : {r : Taken FileClaim Front} → ClaimOn f b r → claim_of r.value ≡ claim_at s p
  front-claim x = x.is s 57 e (omega (arith, one-bit s e)) a ∙ ap (claim_at s) here

  front-first : claim_of (first_on b f) ≡ claim_at s p
  front-first = claim-by s e f.place.at (first_on b f) (front-is a (b + 20) (omega (arith, one-bit s e))) ∙ ap (claim_at s) here

  front-second : claim_of (second_on b f) ≡ claim_at s (past_claim s p)
  front-second =
      let behind = ahead_past a (b + 20) (omega (arith, one-bit s e)) in
      claim-by s e (f.place.at + (b + 20)) (second_on b f) (front-is behind (b + 20) (omega (arith, one-bit s e)))
      ∙ ap (claim_at s) (omega (arith, here, past-claim s p, width-by s e))

-- ---- a pair

pub front-requires : goal.front-requires
front-requires g c =
    let l = c.loop in
    let few = pair-within c.args.span.count l.counter c.loop-test.true in
    let r = next-reach c.args.file.now {i = 2 * l.counter} l.invariant.place (omega (arith, few)) c.last_byte-reach.ensures in
    omega (arith, r.ends)

pub add_pair-sums-requires : goal.add_pair-sums-requires
add_pair-sums-requires g c =
    let s = c.args.file.now in
    let l = c.loop in
    let at = c.args.span.first.at in
    let k : ℕ = 2 * l.counter in
    let few = pair-within c.args.span.count l.counter c.loop-test.true in
    let r = next-reach s {i = k} l.invariant.place (omega (arith, few)) c.last_byte-reach.ensures in (
      (claims_from s at k, c.args.limit, omega (arith, few, c.args.span.reach.few, length-claims s at k), l.invariant.are),
      omega (arith, r.inside, c.front.ensures.0),
    )

pub past-next-requires : goal.past-next-requires
past-next-requires g c =
    let l = c.loop in
    let few = pair-within c.args.span.count l.counter c.loop-test.true in
    let r = next-reach c.args.file.now {i = 2 * l.counter} l.invariant.place (omega (arith, few)) c.last_byte-reach.ensures in
    omega (arith, r.inside, one-bit c.args.file.now c.requires, c.BITS-width.ensures)

pub loop-preserved : goal.loop-preserved
loop-preserved g c =
    let s = c.args.file.now in
    let at = c.args.span.first.at in
    let e = c.requires in
    let l = c.loop in
    let k : ℕ = 2 * l.counter in
    let few = pair-within c.args.span.count l.counter c.loop-test.true in
    let next : k + 2 ≡ 2 * (l.counter + 1) = omega arith in
    let here = c.front.ensures.0 in
    let ahead = c.front.ensures.1 in
    let both = two-more s at k l.invariant.place (front-first s e here ahead) (front-second s e here ahead) in
    record {
      within = omega (arith, c.loop-test.true);
      place = omega (
        arith,
        c.past-next.ensures,
        c.BITS-width.ensures,
        l.invariant.place,
        past-claims-by s (width-by s e) at k,
        past-claims-by s (width-by s e) at (2 * (l.counter + 1)),
      );
      are =
          subst (λ (cs : List Claim). g.S.Sums.Are cs c.args.limit c.add_pair-sums.result)
          (both ∙ ap (claims_from s at) next)
          (c.add_pair-sums.ensures (claims_from s at k) c.args.limit (omega (arith, few, c.args.span.reach.few, length-claims s at k)) l.invariant.are);
    }

-- ---- behind the pairs

-- L and A of the first k claims, at the place after them
run-is : {s : List ℕ} {at k limit : ℕ} {next : BitPlace} {r : ClaimRun} → LossesOf (claims_from s at k) limit next r
    → next.at ≡ past_claims s at k → ClaimsAre s at k limit r
run-is x e = record { total = x.total; limited = x.limited; next = x.place ∙ e }

pub ended-requires : goal.ended-requires
ended-requires g c =
    let s = c.args.file.now in
    let at = c.args.span.first.at in
    let k : ℕ = 2 * c.loop.counter in
    let few : k ≤ c.args.span.count = omega (arith, c.loop.invariant.within) in
    (claims_from s at k, c.args.limit, omega (arith, few, c.args.span.reach.few, length-claims s at k), c.loop.invariant.are)

pub returns-then-count-eq0 : goal.returns-then-count-eq0
returns-then-count-eq0 g c =
    let s = c.args.file.now in
    let at = c.args.span.first.at in
    let l = c.loop in
    let k : ℕ = 2 * l.counter in
    let all : k ≡ c.args.span.count = omega (arith, l.invariant.within, c.loop-test.false, c.if-count-eq0.true) in
    subst (λ (n : ℕ). ClaimsAre s at n c.args.limit c.ended.result) all
    (run-is (c.ended.ensures (claims_from s at k) c.args.limit (omega (arith, all, c.args.span.reach.few, length-claims s at k)) l.invariant.are)
    l.invariant.place)

-- ---- with an odd claim

pub front-requires-2 : goal.front-requires-2
front-requires-2 g c =
    let l = c.loop in
    let r = next-reach c.args.file.now {i = 2 * l.counter} l.invariant.place (omega (arith, l.invariant.within)) c.last_byte-reach.ensures in
    omega (arith, r.ends)

pub claim_on-last-requires : goal.claim_on-last-requires
claim_on-last-requires g c =
    let l = c.loop in
    let r = next-reach c.args.file.now {i = 2 * l.counter} l.invariant.place (omega (arith, l.invariant.within)) c.last_byte-reach.ensures in
    (omega (arith, one-bit c.args.file.now c.requires, c.BITS.ensures), omega (arith, r.inside, c.front-2.ensures.0))

pub add_claim-requires : goal.add_claim-requires
add_claim-requires g c =
    let s = c.args.file.now in
    let at = c.args.span.first.at in
    let k : ℕ = 2 * c.loop.counter in
    let few : k + 1 ≤ c.args.span.count = omega (arith, c.loop.invariant.within, c.if-count-eq0.false) in (
      (claims_from s at k, c.args.limit, omega (arith, few, c.args.span.reach.few, length-claims s at k), c.loop.invariant.are),
      subst (λ (b : ℕ). ClaimFits b c.claim_on-last.result.value) c.BITS.ensures c.claim_on-last.ensures.fits,
    )

pub ended-requires-2 : goal.ended-requires-2
ended-requires-2 g c =
    let s = c.args.file.now in
    let at = c.args.span.first.at in
    let e = c.requires in
    let k : ℕ = 2 * c.loop.counter in
    let few : k + 1 ≤ c.args.span.count = omega (arith, c.loop.invariant.within, c.if-count-eq0.false) in
    let x = subst (λ (b : ℕ). ClaimOn c.front-2.result b c.claim_on-last.result) c.BITS.ensures c.claim_on-last.ensures in
    let last = one-more s at k c.loop.invariant.place (front-claim s e c.front-2.ensures.0 c.front-2.ensures.1 x) in (
      claims_from s at (k + 1),
      c.args.limit,
      omega (arith, few, c.args.span.reach.few, length-claims s at (k + 1)),
      subst (λ (cs : List Claim). g.S.Sums.Are cs c.args.limit c.add_claim.result) last
          (c.add_claim.ensures (claims_from s at k) c.args.limit (omega (arith, few, c.args.span.reach.few, length-claims s at k))
          c.loop.invariant.are),
    )

pub returns : goal.returns
returns g c =
    let s = c.args.file.now in
    let at = c.args.span.first.at in
    let e = c.requires in
    let l = c.loop in
    let k : ℕ = 2 * l.counter in
    let all : k + 1 ≡ c.args.span.count = omega (arith, l.invariant.within, c.loop-test.false, c.if-count-eq0.false) in
    let x = subst (λ (b : ℕ). ClaimOn c.front-2.result b c.claim_on-last.result) c.BITS.ensures c.claim_on-last.ensures in
    let here = c.front-2.ensures.0 in
    let last = one-more s at k l.invariant.place (front-claim s e here c.front-2.ensures.1 x) in
    let are =
    subst (λ (cs : List Claim). g.S.Sums.Are cs c.args.limit c.add_claim.result) last
    (c.add_claim.ensures (claims_from s at k) c.args.limit (omega (arith, all, c.args.span.reach.few, length-claims s at k)) l.invariant.are) in
    let place : c.claim_on-last.result.next.place.at ≡ past_claims s at (k + 1) =
    omega (
      arith,
      x.place,
      here,
      l.invariant.place,
      width-by s e,
      past-claims-by s (width-by s e) at k,
      past-claims-by s (width-by s e) at (k + 1),
    ) in
    subst (λ (n : ℕ). ClaimsAre s at n c.args.limit c.ended-2.result) all
    (run-is
    (c.ended-2.ensures (claims_from s at (k + 1)) c.args.limit (omega (arith, all, c.args.span.reach.few, length-claims s at (k + 1))) are)
    place)
