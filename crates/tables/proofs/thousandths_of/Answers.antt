-- The divisor is even, so adding its half before dividing is the nearest.
use Rattle.std.proofs.Common.{sym, ap, ◌∙◌, ℕ, ◌+◌, ◌*◌, ◌/◌}
use Rattle.plan.specs.Arithmetic.{nearest}
use Rattle.laws.proofs.Rounding.{nearest-even}
use Rattle.tables.proofs.thousandths_of.Goals as goal

pub returns : goal.returns
returns c =
    let a = c.args in
    ap (λ (d : ℕ). (1000 * a.x + a.half) / d) c.requires.halves
    ∙ sym (nearest-even (1000 * a.x) a.half c.requires.some)
    ∙ ap (nearest (1000 * a.x)) (sym c.requires.halves)
