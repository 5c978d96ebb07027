-- A turn asks the first risk of those left.
use Rattle.writing.proofs.Opening.{goes_on}
use Rattle.writing.proofs.fitting.risks_open.Goals as goal

pub loop-count-preserved : goal.loop-count-preserved
loop-count-preserved c =
    let p = c.split_at.ensures in
    goes_on c.loop-count.invariant c.loop-count-test.true c.from.ensures p.front p.back c.risk_opens-all.ensures
