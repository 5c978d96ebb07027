-- Two facts of the matrix, computed at every column: each coefficient is at most 2 in size, and the denominator is at least 1 at every
-- entry ratio. What is added to 1 in the denominator is r × (1 + r × (gives − takes)), so the test is r × takes ≤ 1 + r × gives, with
-- both sides times 10 ^ 21. Assumes nothing.
use Prim.Native.Nat.{ℕ, ◌+◌, ◌*◌, ◌^◌, ◌≤◌, ◌<◌}
use mathlib.Core.Bool.{Bool}
use mathlib.Core.List.{List, [], ◌∷◌}
use native.Mathlib.Omega.{arith}
use lib.IntN.{ℤ, pos, nat_abs}
use lib.Dec.{T, leb, leb→le}
use lib.ListN.{get_or}
use Rattle.plan.specs.Matrix.{first_column, last_column, coefficient}
use Rattle.plan.specs.Charge.{last_ratio}
use Rattle.laws.proofs.Columns.{passes, at, at_columns, at-column}
use Rattle.table1965.proofs.Formula.{gives, takes, Fits}

-- ---- the coefficients' sizes
abbrev small : ℕ → ℕ → Bool
small column i = leb (nat_abs (coefficient column i)) 20000000

all_small : T (at_columns (λ (column : ℕ). passes (small column) 7))
all_small = tt

pub fits : (column : ℕ) → first_column ≤ column → column ≤ last_column → (i : ℕ) → i < 7 → Fits (coefficient column i)
fits column h k i l =
    leb→le (nat_abs (coefficient column i)) 20000000
    (at (small column) 7 (at-column (λ (c : ℕ). passes (small c) 7) all_small column h k) i l)

-- ---- the denominator
abbrev enough_at : (ℕ → ℤ) → ℕ → Bool
enough_at b r = leb (r * takes b r) (10 ^ 21 + r * gives b r)

-- the column's coefficients are bound once, so that antt looks them up once
abbrev enough_below : ℕ → ℕ → Bool
enough_below n column =
    let b : ℕ → ℤ = coefficient column in
    let row : List ℤ = b 0 ∷ b 1 ∷ b 2 ∷ b 3 ∷ b 4 ∷ b 5 ∷ b 6 ∷ [] in
    passes (enough_at (λ (i : ℕ). get_or row i (pos 0))) n

all-enough : T (at_columns (enough_below 501))
all-enough = tt

pub enough : (column r : ℕ) → first_column ≤ column → column ≤ last_column → r ≤ last_ratio
    → r * takes (coefficient column) r ≤ 10 ^ 21 + r * gives (coefficient column) r
enough column r h k l =
    leb→le (r * takes (coefficient column) r) (10 ^ 21 + r * gives (coefficient column) r)
    (at (enough_at (coefficient column)) 501 (at-column (enough_below 501) all-enough column h k) r (omega arith))
