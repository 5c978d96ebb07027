-- 'Then for each risk: number of claims 6 (0 to 63), then that many claims'. How one risk lies in the file, and a run of them.
use Rattle.std.specs.Prelude.{List, [], ◌∷◌, ◌++◌, ℕ, zero, suc, ◌+◌, take, drop}
use Rattle.plan.specs.Field.{field, Slot, slot}
use Rattle.plan.specs.Claim.{Claim, claims_from, past_claims, slots_of_claims}

-- 'number of claims 6'
abbrev pub count_width : ℕ
count_width = 6

-- ---- taken

-- the number of claims of the risk that begins at a place
unfoldable pub count_at : List ℕ → ℕ → ℕ
count_at s at = field s at count_width

-- where its count ends and its first claim begins
unfoldable pub first_claim : ℕ → ℕ
first_claim at = at + count_width

-- 'then that many claims'
abbrev pub claims_at : List ℕ → ℕ → List Claim
claims_at s at = claims_from s (first_claim at) (count_at s at)

-- where the risk ends, and the next one begins
abbrev pub past_risk : List ℕ → ℕ → ℕ
past_risk s at = past_claims s (first_claim at) (count_at s at)

-- of the first n risks from a place on: the claim counts
abbrev pub counts_from : List ℕ → ℕ → ℕ → List ℕ
counts_from s at zero = []
counts_from s at (suc n) = count_at s at ∷ counts_from s (past_risk s at) n

-- the claims, a list for each risk
abbrev pub risks_from : List ℕ → ℕ → ℕ → List (List Claim)
risks_from s at zero = []
risks_from s at (suc n) = claims_at s at ∷ risks_from s (past_risk s at) n

-- where they end
abbrev pub past_risks : List ℕ → ℕ → ℕ → ℕ
past_risks s at zero = at
past_risks s at (suc n) = past_risks s (past_risk s at) n

-- the claims of risks, one risk after another
abbrev pub all_claims : List (List Claim) → List Claim
all_claims [] = []
all_claims (claims ∷ rs) = claims ++ all_claims rs

-- ---- written

-- for each risk as many of the claims as its count says
abbrev pub divided : List ℕ → List Claim → List (List Claim)
divided [] claims = []
divided (k ∷ ks) claims = take k claims ∷ divided ks (drop k claims)

-- for each risk its count and then that many of the claims, as fields of an edition
abbrev pub slots_of_risks : ℕ → List ℕ → List Claim → List Slot
slots_of_risks edition [] claims = []
slots_of_risks edition (k ∷ ks) claims =
    slot count_width k ∷ (slots_of_claims edition (take k claims) ++ slots_of_risks edition ks (drop k claims))
