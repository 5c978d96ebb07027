-- The row of a column, as the code gives it.
use Rattle.std.specs.Prelude.{List, map, ℕ, Float}
use Rattle.std.specs.List.{range_with_len}
use Rattle.plan.specs.Matrix.{coefficients}
use Rattle.plan.specs.Charge.{coefficient_double}

-- the row of a column: b2 to b8
abbrev pub row_double : ℕ → List Float
row_double column = map (coefficient_double column) (range_with_len 0 coefficients)
