-- A cursor over the claims of a file, risk by risk: what is to come, and what a step gives.
use Rattle.std.specs.Prelude.{◌≡◌, List, ℕ, ◌+◌}
use Rattle.plan.specs.Claim.{Claim, claim_at, past_claim, claims_from, past_claims}
use Rattle.plan.specs.Risk.{count_at, first_claim, risks_from}
use Rattle.bits.specs.declared.Taken.{Taken}
use Rattle.claims.specs.Claim.{claim_of}
use Rattle.claims.specs.declared.claim.FileClaim.{FileClaim}
use Rattle.claims.specs.declared.cursor.Cursor.{Cursor}

-- the claims of its risk that are left
abbrev pub own_claims : List ℕ → Cursor → List Claim
own_claims s c = claims_from s c.place.at c.left

-- the place after them, where the next risk begins
abbrev pub past_own : List ℕ → Cursor → ℕ
past_own s c = past_claims s c.place.at c.left

-- the claims of the n risks after them, a list for each
abbrev pub later_risks : List ℕ → Cursor → ℕ → List (List Claim)
later_risks s c n = risks_from s (past_own s c) n

-- the count of the risk that begins at the cursor, which then stands before its claims
pub record NextRisk (s : List ℕ) (c : Cursor) (r : Taken ℕ Cursor) : Type 0 where
  pub count : r.value ≡ count_at s c.place.at
  pub place : r.next.place.at ≡ first_claim c.place.at
  pub left : r.next.left ≡ r.value

-- the claim at the cursor, which then stands behind it
pub record NextClaim (s : List ℕ) (c : Cursor) (r : Taken FileClaim Cursor) : Type 0 where
  pub is : claim_of r.value ≡ claim_at s c.place.at
  pub place : r.next.place.at ≡ past_claim s c.place.at
  pub left : c.left ≡ r.next.left + 1
