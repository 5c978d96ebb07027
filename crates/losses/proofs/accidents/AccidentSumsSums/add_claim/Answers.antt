-- The claim opens an accident or joins the last.
use Rattle.std.proofs.Common.{arith}
use Rattle.losses.proofs.Joining.{claim-le, accident-room, joining-more}
use Rattle.losses.proofs.accidents.AccidentSumsSums.add_claim.Goals as goal

pub join_claim-requires : goal.join_claim-requires
join_claim-requires c = accident-room c.requires.0.3 (omega (arith, c.requires.0.2))

pub returns : goal.returns
returns c = λ cs limit few w. joining-more w (omega (arith, few)) (claim-le c.args.claim) c.join_claim.ensures
