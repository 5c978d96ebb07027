-- The nested formula, operation by operation.
use Rattle.std.proofs.Common.{◌≡◌, ap, get_or, List, ℕ}
use lib.Ieee.{Float, binary64, nan, of_bits}
use Rattle.plan.specs.Doubles.{◌+ᵈ◌, ◌*ᵈ◌, ◌/ᵈ◌}
use Rattle.plan.specs.Charge.{charge_double, nested, ratio_double}
use Rattle.table1965.proofs.Literals.{one, hundred}
use Rattle.table1965.proofs.charges.unrounded.Goals as goal

pub returns : goal.returns
unfolding charge_double nested
returns c =
    let b = λ (k : ℕ). ap (λ (row : List Float). get_or row k nan) c.row.ensures in
    let r : c.from-r.result /ᵈ of_bits binary64 0x4059_0000_0000_0000 ≡ ratio_double c.args.hundredths = λ i. c.from-r.ensures i /ᵈ hundred i in
    λ i. one i
    /ᵈ (one i +ᵈ r i
    +ᵈ r i *ᵈ r i *ᵈ (b 0 i +ᵈ r i *ᵈ (b 1 i +ᵈ r i *ᵈ (b 2 i +ᵈ r i *ᵈ (b 3 i +ᵈ r i *ᵈ (b 4 i +ᵈ r i *ᵈ (b 5 i +ᵈ r i *ᵈ b 6 i)))))))
