-- A turn puts the next of the bits; two puts, one after the other, are one.
use Rattle.std.proofs.Common.{arith, sym, length, ◌/◌, ◌<◌, pow_pos, mod-lt}
use Rattle.bits.proofs.Parts.{starts, goes_on, ends}
use Rattle.bits.proofs.BitPlace.put.Goals as goal

pub loop-left-init : goal.loop-left-init
loop-left-init c =
    let a = c.args in
    starts a.out.now a.self.at a.width a.value c.requires.fits

pub put_in_byte-requires : goal.put_in_byte-requires
put_in_byte-requires c =
    let n = c.count_in_byte-n in
    let l = c.loop-left in
    let within : l.at / 8 < length l.out = omega (arith, l.invariant.done.same) in
    (n.ensures.inside, within, rw c.extract.ensures (mod-lt _ (pow_pos n.result)))

pub loop-left-preserved : goal.loop-left-preserved
loop-left-preserved c =
    goes_on c.loop-left.invariant c.count_in_byte-n.ensures (rw (sym c.from.ensures) c.extract.ensures) c.put_in_byte.ensures

pub returns-clause-put : goal.returns-clause-put
returns-clause-put c = ends c.loop-left.invariant (omega arith)
