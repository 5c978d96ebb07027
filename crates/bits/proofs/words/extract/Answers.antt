-- A shift and a mask are a quotient and a remainder.
use Prim.Native.Nat.{◌/◌, ◌^◌}
use Rattle.bits.proofs.Shifts.{masked}
use Rattle.bits.proofs.words.extract.Goals as goal

pub returns : goal.returns
returns c = masked (c.args.x / 2 ^ c.args.low) c.args.n c.requires.1
