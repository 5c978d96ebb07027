-- Edition 2: the sums of claims whose accidents may have several. The total is the claims', what came since `start` is the sum of the
-- last accident, and what the limit leaves of the accidents before it is added up. The law takes one claim more. Assumes nothing.
use mathlib.Core.Path.{◌≡◌, refl, sym, ap, ap₂, ◌∙◌, subst}
use mathlib.Core.List.{List, [], ◌∷◌, ◌++◌}
use Prim.Native.Nat.{ℕ, zero, suc, ◌+◌, ◌-◌, ◌*◌, ◌/◌, ◌^◌, ◌≤◌, min}
use native.Mathlib.Omega.{arith}
use lib.ListN.{length, length-append}
use Rattle.std.proofs.Common.{append_assoc}
use Rattle.plan.specs.Sizes.{largest_claim, most_claims, most_risk_losses}
use Rattle.plan.specs.Claim.{Claim, joins, dollars, dollars_width}
use Rattle.plan.specs.Losses.{limited_to, total_of, limited_of}
use Rattle.laws.proofs.Sums.{sum-append}
use Rattle.laws.proofs.Accidents.{last_of, last-le, More, one_more}
use Rattle.laws.proofs.Losses.{most-limited, limited-parts, limited-total}
use Rattle.bits.specs.declared.Front.{Front}
use Rattle.bits.specs.declared.Taken.{Taken}
use Rattle.claims.specs.Claim.{claim_of, ClaimOn, second_on}
use Rattle.claims.specs.declared.claim.FileClaim.{FileClaim}
use Rattle.losses.specs.Accidents.{AccidentRoom, AccidentAdded, PairRoom, PairAdded, AccidentsSummed}
use Rattle.losses.specs.declared.accidents.AccidentSums.{AccidentSums}

pub joining-starts : (limit : ℕ) {r : AccidentSums} → r.total ≡ 0 → r.start ≡ 0 → r.limited ≡ 0
    → r.most ≡ limited_to limit most_risk_losses → AccidentsSummed [] limit r
joining-starts limit t s l m = record { total = t; last = omega (arith, t, s); before = l; most = m; each = omega arith }

-- by its number a claim is no larger than the largest
pub claim-le : (c : FileClaim) → dollars (claim_of c) ≤ largest_claim
claim-le c = omega arith

-- by the bits of the front the claim behind the first is the second on it
pub behind : {bits : ℕ} {f : Front} {p q : Taken FileClaim Front} → ClaimOn f bits p → ClaimOn p.next bits q → q.value ≡ second_on bits f
behind {bits} x y = y.first ∙ (λ i. record { number = x.others i / 2 ^ (64 - (bits + dollars_width)) })

-- a claim added by another name
pub added-by : {r q : AccidentSums} {c d : FileClaim} → c ≡ d → AccidentAdded r (claim_of c) q → AccidentAdded r (claim_of d) q
added-by {r} {q} e a = subst (λ (x : FileClaim). AccidentAdded r (claim_of x) q) e a

module _ {cs : List Claim} {limit : ℕ} {r : AccidentSums} (w : AccidentsSummed cs limit r) where
  limited-le-total : r.limited ≤ r.total
  limited-le-total = omega (arith, w.before, w.total, limited-parts limit cs, limited-total limit cs)

  -- of 63 claims there is room for what ends and for a claim more
  pub accident-room : length cs ≤ most_claims → AccidentRoom r
  accident-room h = record {
    total = omega (arith, w.total, w.each);
    limited = omega (arith, w.total, w.each, limited-le-total);
  }

  -- and for two
  pub pair-room : length cs ≤ most_claims → PairRoom r
  pair-room h = record {
    total = omega (arith, w.total, w.each);
    limited = omega (arith, w.total, w.each, limited-le-total);
  }

  -- what the limit leaves of the last accident
  last-limited : length cs ≤ most_claims → min (r.total - r.start) r.most ≡ limited_to limit (last_of cs)
  last-limited h =
      let since : r.total - r.start ≡ last_of cs = omega (arith, w.last) in
      ap₂ min since w.most
      ∙ most-limited limit (last_of cs) most_risk_losses (omega (arith, last-le cs, w.each))

  -- all of them: A
  pub all-limited : length cs ≤ most_claims → r.limited + min (r.total - r.start) r.most ≡ limited_of limit cs
  all-limited h = ap₂ ◌+◌ w.before (last-limited h) ∙ sym (limited-parts limit cs)

  -- one claim more
  pub joining-more : {c : Claim} {q : AccidentSums} → length cs ≤ most_claims → dollars c ≤ largest_claim → AccidentAdded r c q
      → AccidentsSummed (cs ++ c ∷ []) limit q
  joining-more {c} {q} h small a = by_bit (joins c) refl
    where
      law : More (limited_to limit) cs c
      law = one_more (limited_to limit) cs c

      more : total_of (cs ++ c ∷ []) ≡ total_of cs + dollars c
      more = sum-append dollars cs (c ∷ []) ∙ omega arith

      total-more : q.total ≡ total_of (cs ++ c ∷ [])
      total-more = a.total ∙ ap (λ (x : ℕ). x + dollars c) w.total ∙ sym more

      each-more : total_of (cs ++ c ∷ []) ≤ largest_claim * length (cs ++ c ∷ [])
      each-more = omega (arith, more, w.each, small, length-append cs (c ∷ []))

      -- by its bit
      by_bit : (j : ℕ) → joins c ≡ j → AccidentsSummed (cs ++ c ∷ []) limit q
      by_bit zero z = record {
        total = total-more;
        last = omega (arith, a.total, a.start_opened z, law.opened_last z);
        before = a.limited_opened z ∙ ap₂ ◌+◌ w.before (last-limited h) ∙ sym (law.opened_before z);
        most = a.most ∙ w.most;
        each = each-more;
      }
      by_bit (suc j) z =
          let one : 1 ≤ joins c = omega (arith, z) in
          record {
            total = total-more;
            last = omega (arith, a.total, a.start_joined one, w.last, law.joined_last one);
            before = a.limited_joined one ∙ w.before ∙ sym (law.joined_before one);
            most = a.most ∙ w.most;
            each = each-more;
          }

-- two claims more
pub pair-more : {cs : List Claim} {limit : ℕ} {r q : AccidentSums} {c d : Claim} → AccidentsSummed cs limit r → length cs + 2 ≤ most_claims
    → dollars c ≤ largest_claim → dollars d ≤ largest_claim → PairAdded r c d q → AccidentsSummed (cs ++ c ∷ d ∷ []) limit q
pair-more {cs} {limit} {r} {q} {c} {d} w h x y p =
    subst (λ (ds : List Claim). AccidentsSummed ds limit q) (append_assoc cs (c ∷ []) (d ∷ []))
    (joining-more (joining-more w (omega arith) x p.first) (omega (arith, length-append cs (c ∷ []))) y p.second)
