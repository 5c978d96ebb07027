-- n × T × (n × e + SL) fits 64 bits.
use Rattle.std.proofs.Common.{arith, ℕ, ◌+◌, ◌*◌, ◌≤◌}
use Rattle.std.proofs.Math.Nat.{mul-le-mul}
use Rattle.plan.specs.Sizes.{largest_expense}
use Rattle.sold.specs.Owed.{OwedBounds}
use Rattle.sold.proofs.owed.owed_of.Goals as goal

owed-le : {risks tax expense total : ℕ} → OwedBounds risks tax expense total
    → risks * tax * (risks * expense + total) ≤ 5100000 * 17112744000
owed-le {risks} {tax} {expense} {total} b =
    let rate : risks * tax ≤ 5100000 = omega (arith, mul-le-mul b.few b.tax_most) in
    let most : expense ≤ largest_expense = omega (arith, b.expense_lt) in
    let sum : risks * expense + total ≤ 17112744000 = omega (arith, mul-le-mul b.few most, b.total_most) in
    mul-le-mul rate sum

pub overflow_mul-owed-3 : goal.overflow_mul-owed-3
overflow_mul-owed-3 c = simp (c.from-n.ensures, c.from.ensures, c.from-2.ensures) (omega (arith, owed-le c.requires))

pub overflow_mul-result : goal.overflow_mul-result
overflow_mul-result c = simp (c.from-3.ensures, c.from-n.ensures, c.from.ensures, c.from-2.ensures) (omega (arith, owed-le c.requires))
