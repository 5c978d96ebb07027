-- With the last accident ended, what the limit leaves of all is added up.
use Rattle.std.proofs.Common.{◌∙◌, arith}
use Rattle.losses.proofs.Joining.{accident-room, all-limited}
use Rattle.losses.proofs.accidents.AccidentSumsSums.ended.Goals as goal

pub run_ended-requires : goal.run_ended-requires
run_ended-requires c = accident-room c.requires.3 (omega (arith, c.requires.2))

pub returns : goal.returns
returns c = λ cs limit few w.
    let x = c.run_ended.ensures in
    record { total = x.total ∙ w.total; limited = x.limited ∙ all-limited w few; place = x.next }
