-- What a run of claims comes to.
use Rattle.std.specs.Prelude.{◌≡◌, List, ℕ}
use Rattle.plan.specs.Claim.{claims_from, past_claims}
use Rattle.plan.specs.Losses.{total_of, limited_of}
use Rattle.claims.specs.declared.run.ClaimRun.{ClaimRun}

-- the first k claims from the place `at` on: L, A, and the place after them
pub record ClaimsAre (s : List ℕ) (at k limit : ℕ) (r : ClaimRun) : Type 0 where
  pub total : r.losses.total ≡ total_of (claims_from s at k)
  pub limited : r.losses.limited ≡ limited_of limit (claims_from s at k)
  pub next : r.next.at ≡ past_claims s at k
