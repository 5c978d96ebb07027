-- The claim is an accident of its own.
use Rattle.std.proofs.Common.{arith}
use Rattle.losses.proofs.Summing.{claim-room, summing-claim}
use Rattle.losses.proofs.singles.ClaimSumsSums.add_claim.Goals as goal

pub with_claim-requires : goal.with_claim-requires
with_claim-requires c = claim-room c.requires.0.3 (omega (arith, c.requires.0.2))

pub returns : goal.returns
returns c = λ cs limit few w. summing-claim w c.requires.1 c.with_claim.ensures
