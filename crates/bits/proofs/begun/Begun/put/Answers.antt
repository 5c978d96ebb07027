-- A word has room for both.
use Rattle.bits.proofs.Shifts.{joins}
use Rattle.bits.proofs.begun.Begun.put.Goals as goal

pub join-requires : goal.join-requires
join-requires c =
    let r = c.requires in
    rw c.from.ensures (joins c.args.self.bits c.args.width r.held r.fits (r.room, r.narrow))
