-- What the sums over some claims of a risk are asked for and give, whichever edition's: `Are` says of which claims they are, by which
-- loss limit.
use Rattle.std.specs.Prelude.{◌≡◌, List, ◌++◌, ℕ, ◌+◌, ◌≤◌, length}
use Rattle.plan.specs.Sizes.{most_claims}
use Rattle.plan.specs.Claim.{Claim}
use Rattle.plan.specs.Losses.{total_of, limited_of}
use Rattle.bits.specs.declared.BitPlace.{BitPlace}
use Rattle.claims.specs.declared.run.ClaimRun.{ClaimRun}

-- L and A of some claims, and the place after them
pub record LossesOf (cs : List Claim) (limit : ℕ) (next : BitPlace) (q : ClaimRun) : Type 0 where
  pub total : q.losses.total ≡ total_of cs
  pub limited : q.losses.limited ≡ limited_of limit cs
  pub place : q.next.at ≡ next.at

module _ {S : Type 0} (Are : List Claim → ℕ → S → Type 0) where
  -- they are of some claims of a risk, which may have k more
  abbrev pub RoomFor : ℕ → S → Type 0
  RoomFor k r = (cs : List Claim) × (limit : ℕ) × (length cs + k ≤ most_claims) × Are cs limit r

  -- with these claims more they are of them too
  abbrev pub Added : S → List Claim → S → Type 0
  Added r ds q = (cs : List Claim) (limit : ℕ) → length cs + length ds ≤ most_claims → Are cs limit r → Are (cs ++ ds) limit q

  -- they come to L and A of them
  abbrev pub LossesAre : S → BitPlace → ClaimRun → Type 0
  LossesAre r next q = (cs : List Claim) (limit : ℕ) → length cs ≤ most_claims → Are cs limit r → LossesOf cs limit next q
