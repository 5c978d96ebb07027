-- The stored byte has the new bits, and the bits above and below them are kept.
use Rattle.std.proofs.Common.{ℕ, ◌-◌, ◌/◌, ◌%◌, ◌<◌, get_or, arith}
use Rattle.bits.proofs.OneByte.{put-one-byte}
use Rattle.bits.proofs.put_in_byte.Goals as goal

pub returns : goal.returns
returns c =
    let a = c.args in
    let old : get_or a.out.now (a.at / 8) 0 < 256 = omega arith in
    let low : ℕ = 8 - a.at % 8 - a.n in
    put-one-byte a.out.now (a.at / 8) (a.at % 8) a.n low a.part c.insert.result
    (omega arith) c.requires.1 old c.insert.type_inv c.insert.ensures (omega arith)
