-- The running sums: 'after each risk it is the sum of A so far'. What passing a risk asks for and gives.
use Rattle.std.specs.Prelude.{◌≡◌, List, ℕ, ◌+◌, ◌<◌}
use Rattle.plan.specs.Arithmetic.{sum}
use Rattle.plan.specs.Sizes.{most_risks}
use Rattle.plan.specs.Header.{header_bits}
use Rattle.plan.specs.Risk.{claims_at, counts_from, risks_from, past_risks}
use Rattle.plan.specs.Accidents.{all_open}
use Rattle.plan.specs.Losses.{total_of, limited_of, SL, SA, losses_from}
use Rattle.losses.specs.declared.risks.SumsSoFar.{SumsSoFar}
use Rattle.losses.specs.declared.risks.PassedRisk.{PassedRisk}

-- over the first k risks of the file s, by a loss limit: how many they are, the number of their claims, whether each one's first
-- claim opens an accident, the sum of L, the sum of A; and the place of risk k + 1
pub record SumsAre (s : List ℕ) (limit k : ℕ) (r : SumsSoFar) : Type 0 where
  pub risks : r.risks ≡ k
  pub claims : r.claims ≡ sum (counts_from s header_bits k)
  pub each_opens : r.each_opens ≡ all_open (risks_from s header_bits k)
  pub total : r.total ≡ SL (losses_from s limit header_bits k)
  pub limited : r.limited ≡ SA (losses_from s limit header_bits k)
  pub next : r.next.at ≡ past_risks s header_bits k

-- what passing a risk asks for: the sums over the risks so far, which are fewer than 255
pub record NextRisk (s : List ℕ) (limit : ℕ) (r : SumsSoFar) : Type 0 where
  pub sums : SumsAre s limit r.risks r
  pub few : r.risks < most_risks

-- risk k + 1 passed: its own L and A, and the sums over the first k + 1
pub record RiskPassed (s : List ℕ) (limit k : ℕ) (r : PassedRisk) : Type 0 where
  pub total : r.losses.total ≡ total_of (claims_at s (past_risks s header_bits k))
  pub limited : r.losses.limited ≡ limited_of limit (claims_at s (past_risks s header_bits k))
  pub sums : SumsAre s limit (k + 1) r.sums
