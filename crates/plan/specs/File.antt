-- The group file: the header, then the risks. 'Zero bits fill the last byte.' And the values of a group, which are taken from a file
-- or written as one.
use Rattle.std.specs.Prelude.{List, map, ◌++◌, ℕ, ◌-◌, ◌*◌, length}
use Rattle.plan.specs.Field.{field, Slot, bytes_of}
use Rattle.plan.specs.Header.{Header, header_bits, header_of, edition_of, risk_count, header_slots}
use Rattle.plan.specs.Claim.{Claim, joins, dollars, claims_of}
use Rattle.plan.specs.Risk.{counts_from, risks_from, past_risks, all_claims, slots_of_risks}

-- a group's values; n is the number of counts
pub record Group : Type 0 where
  -- 1 or 2 where question 2 is answered Yes
  pub edition : ℕ
  -- loss limit to minimum mark
  pub header : Header
  -- the number of claims of each risk
  pub counts : List ℕ
  -- the dollars of each claim, one risk after another
  pub claims : List ℕ
  -- the bit of each claim: 'all 0 for edition 1'
  pub joined : List ℕ

-- ---- taken: the first risk begins where the header ends

-- the claim counts
abbrev pub counts_of : List ℕ → List ℕ
counts_of s = counts_from s header_bits (risk_count s)

-- the claims of each risk
abbrev pub risks_of : List ℕ → List (List Claim)
risks_of s = risks_from s header_bits (risk_count s)

-- the claims of all
abbrev pub claims_in : List ℕ → List Claim
claims_in s = all_claims (risks_of s)

-- the place where the last claim or count ends
abbrev pub end_of : List ℕ → ℕ
end_of s = past_risks s header_bits (risk_count s)

-- the fill bits: those after that place. Where question 8 is answered Yes the place is at most 8 × length and less than 8
-- below it, so the minus cannot cut off and these are bits of the last byte; elsewhere 9 is not reached
abbrev pub fill_of : List ℕ → ℕ
fill_of s = field s (end_of s) (8 * length s - end_of s)

-- the group of a file
abbrev pub group_of : List ℕ → Group
group_of s = record {
  edition = edition_of s;
  header = header_of s;
  counts = counts_of s;
  claims = map dollars (claims_in s);
  joined = map joins (claims_in s);
}

-- ---- written

-- the claims of given values
abbrev pub claims_given : Group → List Claim
claims_given g = claims_of g.joined g.claims

-- every field of the file that given values make
abbrev pub file_slots : Group → List Slot
file_slots g = header_slots g.edition g.header (length g.counts) ++ slots_of_risks g.edition g.counts (claims_given g)

-- the file that given values make
abbrev pub file_of : Group → List ℕ
file_of g = bytes_of (file_slots g)

-- its length in bytes
abbrev pub file_length : Group → ℕ
file_length g = length (file_of g)
