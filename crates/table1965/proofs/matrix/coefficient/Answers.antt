-- The ten-millionths are divided by 10,000,000, the code's literal.
use Rattle.std.proofs.Common.{◌≡◌, refl, ap, ◌∙◌, w32}
use Rattle.std.proofs.lemmas.Int.{to_z-of_z}
use lib.Ieee.{binary64, of_bits, of_int}
use Rattle.plan.specs.Doubles.{◌/ᵈ◌, double, whole}
use Rattle.table1965.proofs.matrix.coefficient.Goals as goal

-- the literal, by its bits
ten-million : of_bits binary64 0x4163_12d0_0000_0000 ≡ whole 10000000
unfolding of_bits of_int
ten-million = refl

pub returns : goal.returns
returns c = let e = c.from.ensures ∙ ap double (to_z-of_z w32 _ c.ranges.ten_millionths) in λ i. e i /ᵈ ten-million i
