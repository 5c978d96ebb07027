-- The risk is the one where the first k end, and each sum takes its part of it.
use mathlib.Core.Path.{refl, ap}
use Prim.Native.Nat.{ℕ, ◌+◌}
use native.Mathlib.Omega.{arith}
use Rattle.losses.proofs.Passing.{risk-most, place-most, claims-most, total_most, limited_most, risk-passed}
use Rattle.losses.proofs.risks.pass_risk.Goals as goal

pub risk_at-risk-requires : goal.risk_at-risk-requires
risk_at-risk-requires c = omega (arith, place-most c.requires.sums, c.requires.few)

pub overflow_add-claims : goal.overflow_add-claims
overflow_add-claims c =
    omega (arith, claims-most c.requires.sums, c.requires.few, (risk-most c.risk_at-risk.ensures).count)

pub overflow_add-total : goal.overflow_add-total
overflow_add-total c =
    omega (arith, total_most c.requires.sums, c.requires.few, (risk-most c.risk_at-risk.ensures).total)

pub overflow_add-limited : goal.overflow_add-limited
overflow_add-limited c =
    let most = risk-most c.risk_at-risk.ensures in
    omega (arith, total_most c.requires.sums, limited_most c.requires.sums, c.requires.few, most.total, most.limited)

pub returns : goal.returns
returns c =
    let s = c.args.sums in
    risk-passed c.requires.sums c.risk_at-risk.ensures refl refl refl (ap (λ (x : ℕ). s.total + x) c.from.ensures)
    (ap (λ (x : ℕ). s.limited + x) c.from-2.ensures) refl
