-- 'Show once for the matrix that a row's sum is within 2 ten-millionths of 1 ÷ column − 2': one test, computed over the 17 rows, and
-- from it the rule of each row. Assumes nothing.
use Prim.Native.Nat.{ℕ, ◌*◌, ◌≤◌}
use mathlib.Core.Bool.{Bool}
use lib.Dec.{T, leb, leb→le}
use Rattle.plan.specs.Matrix.{first_column, last_column, row_off, row_tolerance, RowSumRule}
use Rattle.laws.proofs.Columns.{at_columns, at-column}

abbrev kept : ℕ → Bool
kept column = leb (row_off column) (row_tolerance * column)

computed : T (at_columns kept)
computed = tt

pub row-sums : (column : ℕ) → first_column ≤ column → column ≤ last_column → RowSumRule column
row-sums column l u = leb→le (row_off column) (row_tolerance * column) (at-column kept computed column l u)
