-- The bits of `high` and of `low` do not meet.
use Rattle.bits.proofs.Shifts.{join-is}
use Rattle.bits.proofs.words.join.Goals as goal

pub returns : goal.returns
returns c = join-is c.requires
