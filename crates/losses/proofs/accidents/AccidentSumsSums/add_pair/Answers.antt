-- Two claims, one after the other.
use Rattle.std.proofs.Common.{arith}
use Rattle.claims.specs.Claim.{first_on, second_on}
use Rattle.losses.proofs.Joining.{claim-le, pair-room, pair-more}
use Rattle.losses.proofs.accidents.AccidentSumsSums.add_pair.Goals as goal

pub join_pair-requires : goal.join_pair-requires
join_pair-requires c = (pair-room c.requires.0.3 (omega (arith, c.requires.0.2)), c.requires.1)

pub returns : goal.returns
returns c = λ cs limit few w. pair-more w few (claim-le (first_on 1 c.args.pair)) (claim-le (second_on 1 c.args.pair)) c.join_pair.ensures
