-- What adding a claim asks for and gives where each is an accident of its own.
use Rattle.std.specs.Prelude.{◌≡◌, List, ℕ, ◌+◌, ◌*◌, ◌^◌, ◌≤◌, ◌<◌, min, length}
use Rattle.plan.specs.Sizes.{largest_claim}
use Rattle.plan.specs.Claim.{Claim}
use Rattle.plan.specs.Losses.{limited_to, total_of, limited_of}
use Rattle.losses.specs.declared.singles.ClaimSums.{ClaimSums}

-- one more of the largest claims can be added, and so can what is left of it
pub record ClaimRoom (r : ClaimSums) : Type 0 where
  pub total : r.total + largest_claim < 2 ^ 32
  pub limited : r.limited + largest_claim < 2 ^ 32
  pub bound : r.most ≤ largest_claim

-- a claim added that is an accident of its own: to the one sum all of it, to the other what `most` leaves of it
pub record ClaimAdded (r : ClaimSums) (x : ℕ) (q : ClaimSums) : Type 0 where
  pub total : q.total ≡ r.total + x
  pub limited : q.limited ≡ r.limited + min x r.most
  pub most : q.most ≡ r.most

-- the sums are of these claims, each an accident of its own, by a loss limit
pub record ClaimsSummed (cs : List Claim) (limit : ℕ) (r : ClaimSums) : Type 0 where
  pub total : r.total ≡ total_of cs
  pub limited : r.limited ≡ limited_of limit cs
  pub most : r.most ≡ limited_to limit largest_claim
  pub each : total_of cs ≤ largest_claim * length cs
