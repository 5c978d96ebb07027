-- A front has the bits of any field.
use Rattle.std.proofs.Common.{ap, ◌∙◌, ℕ, arith}
use native.Mathlib.Nat.{lt_of_lt_of_le}
use lib.Pow.{pow_mono}
use Rattle.plan.specs.Field.{field}
use Rattle.bits.proofs.BitPlace.take.Goals as goal

pub overflow_cast-result : goal.overflow_cast-result
overflow_cast-result c = record { fits = lt_of_lt_of_le c.take-field.ensures.fits (pow_mono c.requires.narrow) }

pub returns : goal.returns
returns c =
    let a = c.args in
    let x = c.take-field.ensures in
    let place = c.front.ensures.0 in
    record {
      is = x.is a.file.now 57 (omega (arith, c.requires.narrow)) c.front.ensures.1 ∙ ap (λ (p : ℕ). field a.file.now p a.width) place;
      place = omega (arith, x.place, place);
    }
