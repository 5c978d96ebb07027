-- Row by row, but for the last.
use Rattle.std.proofs.Common.{sym, ◌∙◌, leb, take, rules, tests, arith}
use Rattle.std.proofs.lemmas.Iterator.{YieldsList-from_slice}
use Rattle.std.proofs.lemmas.Iterator.Search.{all_from_yields_List}
use Rattle.guaranteed.proofs.Rows.{widths_are}
use Rattle.guaranteed.proofs.schedule.widths_pass.Goals as goal

pub returns : goal.returns
returns c =
    let rows = c.args.layers.now in
    all_from_yields_List (λ r. leb 1 r.width) _ _ _ c.all.ensures.ran (YieldsList-from_slice (take 3 rows) cc) (λ x b q k. search (rules, tests))
    ∙ sym (widths_are rows 3 (omega arith))
