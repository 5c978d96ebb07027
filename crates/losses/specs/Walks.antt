-- What the walk over a file's claims gives.
use Rattle.std.specs.Prelude.{◌≡◌, List, ℕ, length}
use Rattle.plan.specs.Header.{header_bits}
use Rattle.plan.specs.Losses.{losses_from}
use Rattle.group.specs.Values.{losses_is, each_of}
use Rattle.losses.specs.RunningSums.{SumsAre}
use Rattle.losses.specs.declared.risks.SumsSoFar.{SumsSoFar}
use Rattle.losses.specs.declared.walking.Walked.{Walked}

-- the running sums as the walk leaves them
abbrev pub sums_of : Walked → SumsSoFar
sums_of r = record {
  risks = length (each_of r.losses);
  claims = r.counted.claims;
  each_opens = r.counted.each_opens;
  total = r.losses.total;
  limited = r.losses.limited;
  next = r.counted.end;
}

-- all of the first n risks: the running sums over them, and L and A of each
pub record WalkIs (s : List ℕ) (n limit : ℕ) (r : Walked) : Type 0 where
  pub sums : SumsAre s limit n (sums_of r)
  pub each : losses_is r.losses ≡ losses_from s limit header_bits n
