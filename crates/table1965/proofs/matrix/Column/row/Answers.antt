-- The code's rows are the matrix's, and each coefficient is divided by 10,000,000.
use Rattle.std.proofs.Common.{◌≡◌, ◌-◌, ◌<◌, [], get_or, pos, sym, ap, ◌∙◌, arith, rules}
use Rattle.std.proofs.lemmas.List.{same_lists}
use Rattle.std.proofs.lemmas.List.FromFn.{get_or-map-range_with_len}
use Rattle.plan.specs.Charge.{coefficient_double, from_ten_millionths}
use Rattle.table1965.specs.Rows.{row_double}
use Rattle.table1965.proofs.Rows.{row_is}
use Rattle.table1965.specs.declared.matrix.TheConstants.{MATRIX}
use Rattle.table1965.proofs.matrix.Column.row.Goals as goal

pub returns : goal.returns
returns c =
    let m = c.map.ensures.items in
    let a = c.args.self.hundredths in
    same_lists c.map.result (row_double a) m.long (λ k d h.
    let few : k < 7 = omega (arith, m.long, h) in
    let got = m.at k (pos 0) d few in
    let e : get_or c.map.result k d ≡ from_ten_millionths (get_or (get_or MATRIX (a - 36) []) k (pos 0)) = search rules in
    e ∙ ap from_ten_millionths (row_is a k c.args.self.least c.args.self.most few) ∙ sym (get_or-map-range_with_len (coefficient_double a) 0 7 k k d few (omega arith)))
