-- The new byte is the bits above, the part and the bits below, joined.
use native.Mathlib.Nat.{div-one}
use Rattle.bits.proofs.Shifts.{parts}
use Rattle.bits.proofs.words.insert.Goals as goal

pub overflow_cast-result-2 : goal.overflow_cast-result-2
overflow_cast-result-2 c =
    let a = c.args in
    let p = parts a.old a.low a.n a.part c.ranges.old.fits c.requires.0 c.requires.1 in
    record { fits = rw (c.join.ensures, c.join-top.ensures, c.extract.ensures, div-one, c.from-b.ensures) p.byte }

pub returns : goal.returns
returns c =
    let a = c.args in
    let p = parts a.old a.low a.n a.part c.ranges.old.fits c.requires.0 c.requires.1 in
    rw (c.join.ensures, c.join-top.ensures, c.extract.ensures, div-one, c.from-b.ensures) p.is
