-- Row by row.
use Rattle.std.proofs.Common.{sym, ◌∙◌, leb, rules, tests}
use Rattle.std.proofs.lemmas.Iterator.{YieldsList-from_slice}
use Rattle.std.proofs.lemmas.Iterator.Search.{all_from_yields_List}
use Rattle.plan.specs.Discount.{most_rate}
use Rattle.guaranteed.proofs.Rows.{rates_are}
use Rattle.guaranteed.proofs.schedule.rates_pass.Goals as goal

pub returns : goal.returns
returns c =
    let rows = c.args.layers.now in
    all_from_yields_List (λ r. leb r.rate most_rate) _ _ _ c.all.ensures.ran (YieldsList-from_slice rows cc) (λ x b q k. search (rules, tests))
    ∙ sym (rates_are rows)
