-- Edition 1: the sums of claims that are an accident each. The law takes one claim more. Assumes nothing.
use mathlib.Core.Path.{◌≡◌, refl, sym, ap, ap₂, ◌∙◌, subst}
use mathlib.Core.List.{List, [], ◌∷◌, ◌++◌}
use Prim.Native.Nat.{ℕ, ◌+◌, ◌≤◌, ◌<◌, min}
use native.Mathlib.Omega.{arith}
use lib.ListN.{length, length-append}
use Rattle.std.proofs.Common.{append_assoc}
use Rattle.plan.specs.Sizes.{largest_claim, most_claims}
use Rattle.plan.specs.Claim.{Claim, joins, dollars}
use Rattle.plan.specs.Losses.{limited_to, total_of}
use Rattle.laws.proofs.Sums.{sum-append}
use Rattle.laws.proofs.Accidents.{one_more}
use Rattle.laws.proofs.Losses.{most-limited, limited-parts, limited-total, none-limited, limited-le}
use Rattle.claims.specs.Claim.{claim_of, ClaimFits}
use Rattle.claims.specs.declared.claim.FileClaim.{FileClaim}
use Rattle.losses.specs.Singles.{ClaimRoom, ClaimAdded, ClaimsSummed}
use Rattle.losses.specs.declared.singles.ClaimSums.{ClaimSums}

-- a claim without a bit opens an accident, and is no larger than the largest
opens-one : (c : FileClaim) → ClaimFits 0 c → joins (claim_of c) ≡ 0
opens-one c fits = omega (arith, fits)

claim-le : (c : FileClaim) → dollars (claim_of c) ≤ largest_claim
claim-le c = omega arith

-- ---- the sums

-- a claim added by another name
pub added-by : {r q : ClaimSums} {c d : FileClaim} → c ≡ d → ClaimAdded r (dollars (claim_of c)) q → ClaimAdded r (dollars (claim_of d)) q
added-by {r} {q} e a = subst (λ (x : FileClaim). ClaimAdded r (dollars (claim_of x)) q) e a

-- a claim added to sums of the same numbers, and given as sums of the same numbers
pub added-as : {r p q s : ClaimSums} {x : ℕ} → ClaimAdded p x q → p.total ≡ r.total → p.limited ≡ r.limited → p.most ≡ r.most
    → s.total ≡ q.total → s.limited ≡ q.limited → s.most ≡ q.most → ClaimAdded r x s
added-as {r} {p} {q} {s} {x} a total limited most total-out limited-out most-out = record {
  total = omega (arith, a.total, total, total-out);
  limited = limited-out ∙ a.limited ∙ ap₂ (λ (n m : ℕ). n + min x m) limited most;
  most = most-out ∙ a.most ∙ most;
}

-- and room in sums of the same numbers, whatever the limit leaves of a claim
pub room-as : {r p : ClaimSums} → ClaimRoom r → p.total ≡ r.total → p.limited ≡ r.limited → p.most ≤ largest_claim → ClaimRoom p
room-as w total limited bound = record { total = omega (arith, w.total, total); limited = omega (arith, w.limited, limited); bound = bound }

pub summing-starts : (limit : ℕ) {r : ClaimSums} → r.total ≡ 0 → r.limited ≡ 0 → r.most ≡ limited_to limit largest_claim
    → ClaimsSummed [] limit r
summing-starts limit t l m = record { total = t; limited = l ∙ sym (none-limited limit); most = m; each = omega arith }

module _ {cs : List Claim} {limit : ℕ} {r : ClaimSums} (w : ClaimsSummed cs limit r) where
  -- a claim more can be added, of 63
  pub claim-room : length cs < most_claims → ClaimRoom r
  claim-room h = record {
    total = omega (arith, w.total, w.each);
    limited = omega (arith, w.total, w.each, w.limited, limited-total limit cs);
    bound = omega (arith, w.most, limited-le limit largest_claim);
  }

  -- one claim more
  pub summing-more : {x : ℕ} {q : ClaimSums} (c : Claim) → x ≡ dollars c → x ≤ largest_claim → joins c ≡ 0 → ClaimAdded r x q
      → ClaimsSummed (cs ++ c ∷ []) limit q
  summing-more {x} {q} c e small opened a =
      let law = one_more (limited_to limit) cs c in
      let left : min x r.most ≡ limited_to limit x = ap (min x) w.most ∙ most-limited limit x largest_claim small in
      let more : total_of (cs ++ c ∷ []) ≡ total_of cs + dollars c = sum-append dollars cs (c ∷ []) ∙ omega arith in
      record {
        total = a.total ∙ ap₂ ◌+◌ w.total e ∙ sym more;
        limited =
            a.limited
            ∙ ap₂ ◌+◌ w.limited (left ∙ ap (limited_to limit) e)
            ∙ omega (arith, limited-parts limit cs, limited-parts limit (cs ++ c ∷ []), law.opened_before opened, ap (limited_to limit) (law.opened_last opened));
        most = a.most ∙ w.most;
        each = omega (arith, more, w.each, small, e, length-append cs (c ∷ []));
      }

  -- by its number
  pub summing-claim : {c : FileClaim} {q : ClaimSums} → ClaimFits 0 c → ClaimAdded r (dollars (claim_of c)) q
      → ClaimsSummed (cs ++ claim_of c ∷ []) limit q
  summing-claim {c} fits a = summing-more (claim_of c) refl (claim-le c) (opens-one c fits) a

-- two
pub summing-pair : {cs : List Claim} {limit : ℕ} {r p q : ClaimSums} {c d : FileClaim} → ClaimsSummed cs limit r → ClaimFits 0 c
    → ClaimAdded r (dollars (claim_of c)) p → ClaimFits 0 d → ClaimAdded p (dollars (claim_of d)) q
    → ClaimsSummed (cs ++ claim_of c ∷ claim_of d ∷ []) limit q
summing-pair {cs} {limit} {r} {p} {q} {c} {d} w x a y b =
    subst (λ (ds : List Claim). ClaimsSummed ds limit q) (append_assoc cs (claim_of c ∷ []) (claim_of d ∷ []))
    (summing-claim (summing-claim w x a) y b)
