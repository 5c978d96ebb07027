-- Questions 20 and 21, then the charge.
use Rattle.std.proofs.Common.{ℕ, subst, rules}
use Rattle.table1965.specs.Charges.{ChargeIs}
use Rattle.table1965.proofs.Answers.{Carried, outside, above-ratio, given_is, on-table}
use Rattle.table1965.proofs.charges.charge_of.Goals as goal

pub returns-in_default-clause-says : goal.returns-in_default-clause-says
returns-in_default-clause-says c = outside c.args.column c.args.entry_ratio c.in_default.ensures

pub returns-then-entry_ratio-gt-LAST_RATIO-clause-says : goal.returns-then-entry_ratio-gt-LAST_RATIO-clause-says
returns-then-entry_ratio-gt-LAST_RATIO-clause-says c =
    let e : Carried c.args.column c.args.entry_ratio = search rules in
    above-ratio c.args.column c.args.entry_ratio e c.if-entry_ratio-gt-LAST_RATIO.true

pub returns : goal.returns
returns c =
    let a = c.args in
    let t = c.charge_at.result in
    let e = c.in-Some.ensures.0 in
    let b = c.if-entry_ratio-gt-LAST_RATIO.false in
    let is : ChargeIs a.column a.entry_ratio t =
    subst (λ (column : ℕ). ChargeIs column a.entry_ratio t) c.in-Some.ensures.1 c.charge_at.ensures in
    record { says = given_is a.column a.entry_ratio e b t is; table = on-table a.column a.entry_ratio e b t is }
