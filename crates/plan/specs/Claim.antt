-- 'then that many claims of 20 bits each. A claim may be 0.' And document 02, job 4: 'Edition 2 of the file has 21 bits a claim:
-- first one bit, 1 when the claim belongs to the same accident as the claim before it in that risk, then the 20 bits.' How one
-- claim lies in a file of either edition, and a run of them: all other definitions and all proofs go by these names and their laws.
use Rattle.std.specs.Prelude.{cond, List, [], ◌∷◌, ◌++◌, ℕ, zero, suc, ◌+◌, eqb}
use Rattle.plan.specs.Field.{field, Slot, slot}
use Rattle.plan.specs.Header.{edition_of}

-- a claim: its bit, and its dollars
pub data Claim : Type 0 where
  claim : (joins dollars : ℕ) → Claim

-- '1 when the claim belongs to the same accident as the claim before it in that risk'
abbrev pub joins : Claim → ℕ
joins (claim j d) = j

abbrev pub dollars : Claim → ℕ
dollars (claim j d) = d

-- ---- widths

-- 'first one bit' in edition 2. 'Edition 1 is still read', without one: a field of no bits, which is 0. No other edition passes
-- question 2, so no answer of a call depends on what stands here for those
abbrev pub joined_width : ℕ → ℕ
joined_width edition = cond (eqb edition 2) 1 0

-- 'then the 20 bits'
abbrev pub dollars_width : ℕ
dollars_width = 20

-- both: 20 bits, or 'Edition 2 of the file has 21 bits a claim'
unfoldable pub claim_width : ℕ → ℕ
claim_width edition = joined_width edition + dollars_width

-- ---- taken

-- the claim at a place of the file s
unfoldable pub claim_at : List ℕ → ℕ → Claim
claim_at s at =
    let bit = joined_width (edition_of s) in
    claim (field s at bit) (field s (at + bit) dollars_width)

-- where it ends
unfoldable pub past_claim : List ℕ → ℕ → ℕ
past_claim s at = at + claim_width (edition_of s)

-- the first k claims from a place on
abbrev pub claims_from : List ℕ → ℕ → ℕ → List Claim
claims_from s at zero = []
claims_from s at (suc k) = claim_at s at ∷ claims_from s (past_claim s at) k

-- where they end
abbrev pub past_claims : List ℕ → ℕ → ℕ → ℕ
past_claims s at zero = at
past_claims s at (suc k) = past_claims s (past_claim s at) k

-- ---- written

-- the fields of a claim in an edition
unfoldable pub slots_of_claim : ℕ → Claim → List Slot
slots_of_claim edition (claim j d) = slot (joined_width edition) j ∷ slot dollars_width d ∷ []

-- the fields of claims, one after another
abbrev pub slots_of_claims : ℕ → List Claim → List Slot
slots_of_claims edition [] = []
slots_of_claims edition (c ∷ cs) = slots_of_claim edition c ++ slots_of_claims edition cs

-- claims of given bits and given dollars, up to the shorter list: question 15 lets no result depend on lists that differ in length
abbrev pub claims_of : List ℕ → List ℕ → List Claim
claims_of [] ds = []
claims_of (j ∷ js) [] = []
claims_of (j ∷ js) (d ∷ ds) = claim j d ∷ claims_of js ds
