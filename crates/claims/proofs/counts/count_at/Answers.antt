-- A count is a field of its width, and the first claim begins after it.
use Rattle.std.proofs.Common.{rules}
use Rattle.plan.specs.Risk.{count_at, first_claim}
use Rattle.claims.proofs.counts.count_at.Goals as goal

pub returns : goal.returns
unfolding count_at first_claim
returns c = search rules
