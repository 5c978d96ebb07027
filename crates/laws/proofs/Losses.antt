-- Laws of step 1. What the first k + 1 claims of a risk come to is what the first k do and the next one: all of it in L, and in A by
-- the law of a claim more. So for the first k + 1 risks: the sums so far. No A is above its L, without a limit they are the same, and
-- sizes are bounded item by item. Assumes nothing.
use mathlib.Core.Path.{◌≡◌, refl, sym, ap, ◌∙◌}
use mathlib.Core.List.{List, [], ◌∷◌, ◌++◌, map, map-append}
use Prim.Native.Nat.{ℕ, zero, suc, ◌+◌, ◌*◌, ◌≤◌, min}
use native.Mathlib.Omega.{arith}
use lib.ListN.{length, get_or, take, length-map}
use Rattle.plan.specs.Arithmetic.{sum}
use Rattle.plan.specs.Sizes.{largest_claim, most_risk_losses}
use Rattle.plan.specs.Header.{header_of, header_bits, risk_count}
use Rattle.plan.specs.Claim.{Claim, joins, dollars, claim_at, past_claim, claims_from, past_claims}
use Rattle.plan.specs.Risk.{count_at, first_claim, claims_at, past_risk, risks_from, past_risks}
use Rattle.plan.specs.Accidents.{accidents_of}
use Rattle.plan.specs.Losses.{Losses, limited_to, total_of, limited_of, losses_of, SL, SA, losses_from, losses_in, losses_so_far}
use Rattle.laws.proofs.Sums.{sum-le, sum-map, sum-append}
use Rattle.laws.proofs.Claims.{dollars-le, claims-more}
use Rattle.laws.proofs.Accidents.{last_of, before_last, all-accidents, More, one_more, sum-accidents}
use Rattle.laws.proofs.Risks.{count-le, length-risks, risks-more}

-- ---- A is at most L

pub limited-le : (limit x : ℕ) → limited_to limit x ≤ x
limited-le zero x = omega arith
limited-le (suc l) x = omega arith

-- nothing is left of nothing
pub limited-none : (limit : ℕ) → limited_to limit 0 ≡ 0
limited-none limit = omega (arith, limited-le limit 0)

-- what the limit leaves of a sum is the lesser of the sum and what it leaves of any number that is no less
pub most-limited : (limit x most : ℕ) → x ≤ most → min x (limited_to limit most) ≡ limited_to limit x
most-limited zero x most h = omega arith
most-limited (suc l) x most h = omega arith

pub limited-total : (limit : ℕ) (claims : List Claim) → limited_of limit claims ≤ total_of claims
unfolding limited_of
limited-total limit claims =
    omega (arith, sum-le (limited_to limit) (λ x. x) (limited-le limit) (accidents_of claims), sum-accidents claims)

-- 'without a limit A = L'
pub no-limit : (claims : List Claim) → limited_of 0 claims ≡ total_of claims
unfolding limited_of
no-limit claims = sum-accidents claims

pub SA≤SL : (limit : ℕ) (risks : List (List Claim)) → SA (map (losses_of limit) risks) ≤ SL (map (losses_of limit) risks)
SA≤SL limit risks =
    omega (
      arith,
      sum-map (λ (r : Losses). r.limited) (losses_of limit) risks,
      sum-map (λ (r : Losses). r.total) (losses_of limit) risks,
      sum-le (λ r. (losses_of limit r).limited) (λ r. (losses_of limit r).total) (limited-total limit) risks,
    )

-- ---- sums so far: of the first claims of a risk

pub none-limited : (limit : ℕ) → limited_of limit [] ≡ 0
unfolding limited_of
none-limited limit = refl

-- what the limit leaves of the accidents before the last
abbrev pub before_limited : ℕ → List Claim → ℕ
before_limited limit claims = before_last (limited_to limit) claims

-- A is that, and what the limit leaves of the last
pub limited-parts : (limit : ℕ) (claims : List Claim)
    → limited_of limit claims ≡ before_limited limit claims + limited_to limit (last_of claims)
unfolding limited_of
limited-parts limit claims = all-accidents (limited_to limit) (limited-none limit) claims

module _ (s : List ℕ) (at k : ℕ) where
  -- the claim after the first k
  abbrev pub claim_after : Claim
  claim_after = claim_at s (past_claims s at k)

  pub total-so-far : total_of (claims_from s at (k + 1)) ≡ total_of (claims_from s at k) + dollars claim_after
  total-so-far = ap total_of (claims-more s at k) ∙ sum-append dollars (claims_from s at k) (claim_after ∷ []) ∙ omega arith

  module _ (limit : ℕ) where
    abbrev first : List Claim
    first = claims_from s at k

    abbrev more : List Claim
    more = claims_from s at (k + 1)

    law : More (limited_to limit) first claim_after
    law = one_more (limited_to limit) first claim_after

    -- a claim whose bit is 0 closes the last accident and opens one
    pub last-opened : joins claim_after ≡ 0 → last_of (claims_from s at (k + 1)) ≡ dollars claim_after
    last-opened e = ap last_of (claims-more s at k) ∙ law.opened_last e

    pub before-opened : joins claim_after ≡ 0
        → before_limited limit (claims_from s at (k + 1))
        ≡ before_limited limit (claims_from s at k) + limited_to limit (last_of (claims_from s at k))
    before-opened e = ap (before_limited limit) (claims-more s at k) ∙ law.opened_before e

    -- one whose bit is 1 adds to the last
    pub last-joined : 1 ≤ joins claim_after → last_of (claims_from s at (k + 1)) ≡ last_of (claims_from s at k) + dollars claim_after
    last-joined e = ap last_of (claims-more s at k) ∙ law.joined_last e

    pub before-joined : 1 ≤ joins claim_after
        → before_limited limit (claims_from s at (k + 1)) ≡ before_limited limit (claims_from s at k)
    before-joined e = ap (before_limited limit) (claims-more s at k) ∙ law.joined_before e

    -- where it is an accident of its own, A takes what the limit leaves of it
    pub limited-so-far : joins claim_after ≡ 0
        → limited_of limit (claims_from s at (k + 1)) ≡ limited_of limit (claims_from s at k) + limited_to limit (dollars claim_after)
    limited-so-far e =
        limited-parts limit more
        ∙ omega (arith, before-opened e, ap (limited_to limit) (last-opened e), limited-parts limit first)

pub claims-total-le : (s : List ℕ) (at k : ℕ) → total_of (claims_from s at k) ≤ largest_claim * k
claims-total-le s at zero = omega arith
claims-total-le s at (suc k) = omega (arith, dollars-le s at, claims-total-le s (past_claim s at) k)

-- L of a risk: 63 claims at most
pub risk-total-le : (s : List ℕ) (at : ℕ) → total_of (claims_at s at) ≤ most_risk_losses
risk-total-le s at = omega (arith, count-le s at, claims-total-le s (first_claim at) (count_at s at))

-- and so each A: entry i of those of a file's risks, 0 behind the last
pub each-limited-le : (s : List ℕ) (limit at n i : ℕ)
    → get_or (map (λ r. r.limited) (losses_from s limit at n)) i 0 ≤ most_risk_losses
each-limited-le s limit at zero zero = omega arith
each-limited-le s limit at zero (suc i) = omega arith
each-limited-le s limit at (suc n) zero = omega (arith, limited-total limit (claims_at s at), risk-total-le s at)
each-limited-le s limit at (suc n) (suc i) = each-limited-le s limit (past_risk s at) n i

-- and each accident of a risk: sum i of the list, 0 behind the last
pub accident-le : (s : List ℕ) (at i : ℕ) → get_or (accidents_of (claims_at s at)) i 0 ≤ most_risk_losses
accident-le s at i =
    omega (arith, entry-le (accidents_of (claims_at s at)) i, sum-accidents (claims_at s at), risk-total-le s at)
  where
    entry-le : (xs : List ℕ) (i : ℕ) → get_or xs i 0 ≤ sum xs
    entry-le [] zero = omega arith
    entry-le [] (suc i) = omega arith
    entry-le (x ∷ xs) zero = omega arith
    entry-le (x ∷ xs) (suc i) = omega (arith, entry-le xs i)

-- ---- sums so far: of the first risks of a file

module _ (s : List ℕ) (limit at k : ℕ) where
  -- the losses of the risk after the first k
  abbrev pub next_losses : Losses
  next_losses = losses_of limit (claims_at s (past_risks s at k))

  pub losses-so-far : losses_from s limit at (k + 1) ≡ losses_from s limit at k ++ next_losses ∷ []
  losses-so-far =
      ap (map (losses_of limit)) (risks-more s at k) ∙ map-append (losses_of limit) (risks_from s at k) (claims_at s (past_risks s at k) ∷ [])

  pub SL-so-far : SL (losses_from s limit at (k + 1)) ≡ SL (losses_from s limit at k) + next_losses.total
  SL-so-far = ap SL losses-so-far ∙ sum-append (λ (r : Losses). r.total) (losses_from s limit at k) (next_losses ∷ []) ∙ omega arith

  pub SA-so-far : SA (losses_from s limit at (k + 1)) ≡ SA (losses_from s limit at k) + next_losses.limited
  SA-so-far = ap SA losses-so-far ∙ sum-append (λ (r : Losses). r.limited) (losses_from s limit at k) (next_losses ∷ []) ∙ omega arith

pub length-losses-from : (s : List ℕ) (limit at n : ℕ) → length (losses_from s limit at n) ≡ n
length-losses-from s limit at n = length-map (risks_from s at n) (losses_of limit) ∙ length-risks s at n

-- the group has n risks
pub length-losses : (s : List ℕ) → length (losses_in s) ≡ risk_count s
length-losses s = length-losses-from s (header_of s).loss_limit header_bits (risk_count s)

pub SL-le : (s : List ℕ) (limit at n : ℕ) → SL (losses_from s limit at n) ≤ most_risk_losses * n
SL-le s limit at zero = omega arith
SL-le s limit at (suc n) = omega (arith, risk-total-le s at, SL-le s limit (past_risk s at) n)

-- ---- the first risks of a file by their number

-- the first k of n risks from a place on are the k risks from there on
pub first-losses : (s : List ℕ) (limit at k n : ℕ) → k ≤ n → take k (losses_from s limit at n) ≡ losses_from s limit at k
first-losses s limit at zero n h = refl
first-losses s limit at (suc k) zero h = absurd (omega arith)
first-losses s limit at (suc k) (suc n) h =
    ap (λ (rs : List Losses). losses_of limit (claims_at s at) ∷ rs) (first-losses s limit (past_risk s at) k n (omega arith))

-- so the losses so far are those that a walk meets, for any k up to n
pub losses-are-so-far : (s : List ℕ) (k : ℕ) → k ≤ risk_count s
    → losses_from s (header_of s).loss_limit header_bits k ≡ losses_so_far s k
losses-are-so-far s k h = sym (first-losses s (header_of s).loss_limit header_bits k (risk_count s) h)

-- and after the last risk they are all
pub all-so-far : (s : List ℕ) → losses_so_far s (risk_count s) ≡ losses_in s
all-so-far s = sym (losses-are-so-far s (risk_count s) (omega arith))
