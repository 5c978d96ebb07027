-- A test that is computed at each number below n holds at each of them; and so a test that is computed at the 17 columns of the 1965
-- table holds at every column that question 20 lets through. Assumes nothing.
use Prim.Native.Nat.{ℕ, zero, suc, ◌+◌, ◌-◌, ◌<◌, ◌≤◌}
use mathlib.Core.Path.{◌≡◌, sym, subst}
use mathlib.Core.Logic.{inl, inr}
use mathlib.Core.Bool.{Bool, true, false}
use native.Mathlib.Nat.{not-suc-le-zero, le_of_suc-le-suc, eq-or-lt_of_le}
use native.Mathlib.Omega.{arith}
use lib.Dec.{T}
use Rattle.plan.specs.Matrix.{first_column, last_column}

-- f passes at each number below n
abbrev pub passes : (ℕ → Bool) → ℕ → Bool
passes f zero = true
passes f (suc n) = elim (f n) [ true ↦ passes f n | false ↦ false ]

split : (b x : Bool) → T (elim b [ true ↦ x | false ↦ false ]) → T b × T x
split true x t = (tt, t)
split false x t = absurd t

pub at : (f : ℕ → Bool) (n : ℕ) → T (passes f n) → (k : ℕ) → k < n → T (f k)
at f zero t k h = absurd (not-suc-le-zero h)
at f (suc n) t k h =
    let p = split (f n) (passes f n) t in
    elim (eq-or-lt_of_le (le_of_suc-le-suc h)) [
      | inl e ↦ subst (λ (m : ℕ). T (f m)) (sym e) p.0
      | inr l ↦ at f n p.1 k l
    ]

-- f passes at each column
abbrev pub at_columns : (ℕ → Bool) → Bool
at_columns f = passes (λ i. f (first_column + i)) 17

pub at-column : (f : ℕ → Bool) → T (at_columns f) → (column : ℕ) → first_column ≤ column → column ≤ last_column → T (f column)
at-column f t column l u =
    let back : first_column + (column - first_column) ≡ column = omega arith in
    subst (λ (n : ℕ). T (f n)) back (at (λ i. f (first_column + i)) 17 t (column - first_column) (omega arith))
