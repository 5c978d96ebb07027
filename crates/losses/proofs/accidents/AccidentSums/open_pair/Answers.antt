-- The first claim ends the accident before it, and the second ends the first.
use mathlib.Core.Path.{◌≡◌, refl, ap, ◌∙◌, subst}
use Prim.Native.Nat.{ℕ, ◌+◌, ◌-◌, ◌/◌, ◌%◌, ◌^◌, min}
use lib.Dec.{lit≤}
use native.Mathlib.Omega.{arith}
use Rattle.plan.specs.Claim.{Claim, joins, dollars}
use Rattle.bits.specs.declared.Front.{Front}
use Rattle.bits.proofs.Laws.{front-after}
use Rattle.claims.specs.Claim.{claim_of, ClaimFits, first_on, second_on}
use Rattle.claims.specs.declared.claim.FileClaim.{FileClaim}
use Rattle.losses.proofs.Joining.{behind}
use Rattle.losses.specs.Accidents.{AccidentAdded}
use Rattle.losses.specs.declared.accidents.AccidentSums.{AccidentSums}
use Rattle.losses.proofs.accidents.AccidentSums.open_pair.Goals as goal

-- a claim that opens an accident added
opening-added : {r q : AccidentSums} {c : Claim} → joins c ≡ 0 → q.total ≡ r.total + dollars c → q.start ≡ r.total
    → q.limited ≡ r.limited + min (r.total - r.start) r.most → q.most ≡ r.most → AccidentAdded r c q
opening-added {r} {q} {c} z t s l m = record {
  total = t;
  start_opened = λ e. s;
  limited_opened = λ e. l;
  start_joined = λ o. absurd (omega (arith, z, o));
  limited_joined = λ o. absurd (omega (arith, z, o));
  most = m;
}

-- the claims on a front whose bits are not set
first-opens : (f : Front) → f.bits / 2 ^ 63 % 2 ^ 1 ≡ 0 → ClaimFits 1 (first_on 1 f) → joins (claim_of (first_on 1 f)) ≡ 0
first-opens f z fits = omega (arith, z, fits)

second-opens : (f : Front) → f.bits / 2 ^ 42 % 2 ^ 1 ≡ 0 → joins (claim_of (second_on 1 f)) ≡ 0
second-opens f z = omega (arith, z, front-after f.bits 21 21 (lit≤ tt))

-- what came after a sum is its rest
since : (a b : ℕ) → b ≡ a + b - a
since a b = omega arith

pub returns : goal.returns
returns c =
    let r = c.args.self in
    let f = c.args.pair in
    let one = c.claim_on-one.ensures.first in
    let two = behind c.claim_on-one.ensures c.claim_on-two.ensures in
    let first : c.dollars-first.result ≡ dollars (claim_of (first_on 1 f)) =
    c.dollars-first.ensures ∙ ap (λ (x : FileClaim). dollars (claim_of x)) one in
    let second : c.dollars-second.result ≡ dollars (claim_of (second_on 1 f)) =
    c.dollars-second.ensures ∙ ap (λ (x : FileClaim). dollars (claim_of x)) two in
    record {
      between = record {
        total = r.total + c.dollars-first.result;
        start = r.total;
        limited = r.limited + c.min.result;
        most = r.most;
        begun = omega arith;
        bound = r.bound;
      };
      first =
          opening-added (first-opens f c.requires.2.first (subst (ClaimFits 1) one c.claim_on-one.ensures.fits))
          (ap (λ (x : ℕ). r.total + x) first) refl (ap (λ (x : ℕ). r.limited + x) c.min.ensures) refl;
      second =
          opening-added (second-opens f c.requires.2.second) (ap (λ (x : ℕ). r.total + c.dollars-first.result + x) second) refl
          (ap (λ (x : ℕ). r.limited + c.min.result + x) (c.min-2.ensures ∙ ap (λ (x : ℕ). min x r.most) (since _ _)))
          refl;
    }
