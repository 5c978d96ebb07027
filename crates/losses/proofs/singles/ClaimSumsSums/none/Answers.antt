-- No claims come to nothing.
use Rattle.std.proofs.Common.{refl}
use Rattle.losses.proofs.Summing.{summing-starts}
use Rattle.losses.proofs.singles.ClaimSumsSums.none.Goals as goal

pub returns : goal.returns
returns c = summing-starts c.args.limit refl refl c.limited_to-most.ensures
