-- Document 02, job 5: 'The unrounded one lies within a millionth of the exact quotient', at every column and entry ratio of the table: the
-- denominator's double is near the exact denominator, which is at least 1, and so is the quotient. Assumes nothing.
use Prim.Native.Nat.{ℕ, ◌+◌, ◌-◌, ◌*◌, ◌^◌, ◌≤◌}
use mathlib.Core.Path.{subst}
use native.Mathlib.Nat.{mul-le-mul_right}
use native.Mathlib.Omega.{arith}
use lib.IntN.{ℤ, pos, ◌*ℤ◌, *ℤ_comm}
use lib.Dec.{lit<, lit≤}
use Rattle.plan.specs.Matrix.{first_column, last_column, coefficient}
use Rattle.plan.specs.Charge.{charge_double, exact_numerator, exact_step, exact_sum, exact_denominator, Within, last_ratio}
use Rattle.laws.proofs.Differences.{Differs, over, under, of-pos, of-self, of-add, of-scale, same}
use Rattle.table1965.proofs.Formula.{gives, takes, denominator-near}
use Rattle.table1965.proofs.Charge.{charge-within}
use Rattle.table1965.proofs.Sweep.{fits, enough}

-- ---- the exact denominator as a difference
step-differs : (r k : ℕ) (b p : ℤ) {a d : ℕ} → Differs p a d
    → Differs (exact_step r k b p) (100 ^ k * over b + r * a) (100 ^ k * under b + r * d)
step-differs r k b p h =
    of-add (b *ℤ pos (100 ^ k)) (pos r *ℤ p)
    (subst (λ (z : ℤ). Differs z (100 ^ k * over b) (100 ^ k * under b)) (*ℤ_comm (pos (100 ^ k)) b) (of-scale (100 ^ k) b (of-self b)))
    (of-scale r p h)

sum-differs : (column r : ℕ) → Differs (exact_sum column r) (gives (coefficient column) r) (takes (coefficient column) r)
sum-differs column r =
    let b : ℕ → ℤ = coefficient column in
    let p5 = exact_step r 1 (b 5) (b 6) in
    let p4 = exact_step r 2 (b 4) p5 in
    let p3 = exact_step r 3 (b 3) p4 in
    let p2 = exact_step r 4 (b 2) p3 in
    let p1 = exact_step r 5 (b 1) p2 in
    step-differs r 6 (b 0) p1
    (step-differs r 5 (b 1) p2
    (step-differs r 4 (b 2) p3
    (step-differs r 3 (b 3) p4
    (step-differs r 2 (b 4) p5
    (step-differs r 1 (b 5) (b 6) (of-self (b 6)))))))

denominator-differs : (column r : ℕ) → Differs (exact_denominator column r)
    (10 ^ 23 + r * 10 ^ 21 + r * r * gives (coefficient column) r) (0 + r * r * takes (coefficient column) r)
unfolding exact_denominator
denominator-differs column r =
    of-add (pos (10 ^ 23 + r * 10 ^ 21)) (pos (r * r) *ℤ exact_sum column r) (of-pos (10 ^ 23 + r * 10 ^ 21))
    (of-scale (r * r) (exact_sum column r) (sum-differs column r))

-- ---- the law
pub within : (column r : ℕ) → first_column ≤ column → column ≤ last_column → r ≤ last_ratio
    → Within (charge_double column r) exact_numerator (exact_denominator column r)
unfolding charge_double
within column r h k l =
    let b : ℕ → ℤ = coefficient column in
    let P = 10 ^ 23 + r * 10 ^ 21 + r * r * gives b r in
    let M = 0 + r * r * takes b r in
    let e : 10 ^ 23 + M ≤ P = least r (gives b r) (takes b r) (enough column r h k l) in
    subst (Within (charge_double column r) exact_numerator)
    (same (pos (P - M)) (exact_denominator column r) (of-pos (P - M)) (denominator-differs column r) (omega arith))
    (charge-within _ P M (P - M) exact_numerator 976556 10555506103 (denominator-near r l b (fits column h k)) (lit< tt) (omega arith)
    (omega arith) (lit≤ tt))
  where
    least : (r a d : ℕ) → r * d ≤ 10 ^ 21 + r * a → 10 ^ 23 + (0 + r * r * d) ≤ 10 ^ 23 + r * 10 ^ 21 + r * r * a
    least r a d g = omega (arith, mul-le-mul_right r g)
