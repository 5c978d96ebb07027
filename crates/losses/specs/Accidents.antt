-- What adding a claim, or a pair of claims, asks for and gives where an accident may have several.
use Rattle.std.specs.Prelude.{◌≡◌, List, ℕ, ◌+◌, ◌-◌, ◌*◌, ◌/◌, ◌%◌, ◌^◌, ◌≤◌, ◌<◌, min, length}
use Rattle.plan.specs.Sizes.{largest_claim, most_risk_losses, most_claim_width}
use Rattle.plan.specs.Claim.{Claim, joins, dollars}
use Rattle.plan.specs.Losses.{limited_to, total_of}
use Rattle.laws.proofs.Accidents.{last_of}
use Rattle.laws.proofs.Losses.{before_limited}
use Rattle.bits.specs.declared.Front.{Front}
use Rattle.claims.specs.declared.run.ClaimRun.{ClaimRun}
use Rattle.losses.specs.declared.accidents.AccidentSums.{AccidentSums}

-- the place behind both claims of a pair is a number of 64 bits
abbrev pub PairReach : Front → Type 0
PairReach f = f.place.at + 2 * most_claim_width < 2 ^ 64

-- neither bit of them is set
pub record PairOpens (f : Front) : Type 0 where
  pub first : f.bits / 2 ^ 63 % 2 ^ 1 ≡ 0
  pub second : f.bits / 2 ^ 42 % 2 ^ 1 ≡ 0

-- ---- the sums

-- one more of the largest claims can be added, and so can what is left of an accident
pub record AccidentRoom (r : AccidentSums) : Type 0 where
  pub total : r.total + largest_claim < 2 ^ 32
  pub limited : r.limited + most_risk_losses < 2 ^ 32

-- where the last accident begins with a claim of this bit more
pub record StartsWith (r : AccidentSums) (bit start : ℕ) : Type 0 where
  pub opens : bit ≡ 0 → start ≡ r.total
  pub joins : 1 ≤ bit → start ≡ r.start

-- a claim added: all of it to the total; where it opens an accident, what `most` leaves of the one that it ends
pub record AccidentAdded (r : AccidentSums) (c : Claim) (q : AccidentSums) : Type 0 where
  pub total : q.total ≡ r.total + dollars c
  pub start_opened : joins c ≡ 0 → q.start ≡ r.total
  pub limited_opened : joins c ≡ 0 → q.limited ≡ r.limited + min (r.total - r.start) r.most
  pub start_joined : 1 ≤ joins c → q.start ≡ r.start
  pub limited_joined : 1 ≤ joins c → q.limited ≡ r.limited
  pub most : q.most ≡ r.most

-- room for two claims, one after the other
pub record PairRoom (r : AccidentSums) : Type 0 where
  pub total : r.total + 2 * largest_claim < 2 ^ 32
  pub limited : r.limited + 2 * most_risk_losses < 2 ^ 32

-- two claims added, one after the other
pub record PairAdded (r : AccidentSums) (c d : Claim) (q : AccidentSums) : Type 0 where
  pub between : AccidentSums
  pub first : AccidentAdded r c between
  pub second : AccidentAdded between d q

-- no claim follows: the last accident ends, and `most` leaves its part of it
pub record RunEnded (r : AccidentSums) (p : ℕ) (q : ClaimRun) : Type 0 where
  pub total : q.losses.total ≡ r.total
  pub limited : q.losses.limited ≡ r.limited + min (r.total - r.start) r.most
  pub next : q.next.at ≡ p

-- the sums are of these claims, by a loss limit: what came since `start` is the sum of the last accident, and what the limit leaves
-- of those before it is added up
pub record AccidentsSummed (cs : List Claim) (limit : ℕ) (r : AccidentSums) : Type 0 where
  pub total : r.total ≡ total_of cs
  pub last : r.total ≡ r.start + last_of cs
  pub before : r.limited ≡ before_limited limit cs
  pub most : r.most ≡ limited_to limit most_risk_losses
  pub each : total_of cs ≤ largest_claim * length cs
