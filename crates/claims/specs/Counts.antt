-- What the counts of risks give, and the bits of their first claims: of one risk, and of the first n.
use Rattle.std.specs.Prelude.{◌≡◌, List, ℕ}
use Rattle.plan.specs.Arithmetic.{sum}
use Rattle.plan.specs.Header.{header_bits}
use Rattle.plan.specs.Risk.{count_at, first_claim, claims_at, counts_from, risks_from, past_risks}
use Rattle.plan.specs.Accidents.{opens, all_open}
use Rattle.bits.specs.declared.BitPlace.{BitPlace}
use Rattle.bits.specs.declared.Taken.{Taken}
use Rattle.claims.specs.declared.counts.RiskHead.{RiskHead}
use Rattle.claims.specs.declared.counts.Counted.{Counted}

-- the count of the risk that begins at the place `at`, and the place of its first claim
pub record CountIs (s : List ℕ) (at : ℕ) (r : Taken ℕ BitPlace) : Type 0 where
  pub is : r.value ≡ count_at s at
  pub next : r.next.at ≡ first_claim at

-- the claims of the risk that begins at the place `at`: how many they are, the place of the first, and whether it opens an accident
pub record HeadIs (s : List ℕ) (at : ℕ) (r : RiskHead) : Type 0 where
  pub count : r.claims.count ≡ count_at s at
  pub first : r.claims.first.at ≡ first_claim at
  pub first_opens : r.first_opens ≡ opens (claims_at s at)

-- by the counts of the first n risks: where they end, how many claims they have, and whether each one's first opens an accident
pub record CountedIs (s : List ℕ) (n : ℕ) (r : Counted) : Type 0 where
  pub end : r.end.at ≡ past_risks s header_bits n
  pub claims : r.claims ≡ sum (counts_from s header_bits n)
  pub each_opens : r.each_opens ≡ all_open (risks_from s header_bits n)
