-- What a risk comes to.
use Rattle.std.specs.Prelude.{◌≡◌, List, ℕ}
use Rattle.plan.specs.Risk.{count_at, claims_at, past_risk}
use Rattle.plan.specs.Accidents.{opens}
use Rattle.plan.specs.Losses.{total_of, limited_of}
use Rattle.losses.specs.declared.risks.Risk.{Risk}

-- the risk that begins at the place `at`
pub record RiskIs (s : List ℕ) (at limit : ℕ) (r : Risk) : Type 0 where
  pub count : r.count ≡ count_at s at
  pub first_opens : r.first_opens ≡ opens (claims_at s at)
  pub total : r.losses.total ≡ total_of (claims_at s at)
  pub limited : r.losses.limited ≡ limited_of limit (claims_at s at)
  pub next : r.next.at ≡ past_risk s at
