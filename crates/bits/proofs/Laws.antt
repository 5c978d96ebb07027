-- The laws that crates above cite: of fields put one after another, of a front, and of fields held before they are stored.
pub use Rattle.bits.proofs.Puts.{put-none}
pub use Rattle.bits.proofs.Runs.{Putting, putting-as, putting-run, space-first, putting-starts, room, putting-more, putting-ends, wrote_none, wrote-more}
pub use Rattle.bits.proofs.Shifts.{front-after}
pub use Rattle.bits.proofs.Fronts.{front-is, ahead_past}
pub use Rattle.bits.proofs.Holding.{Holding, holding-starts, room-to-hold, holding-more, room-to-store, holding-stored, room-to-end, holding-ends}
pub use Rattle.bits.proofs.WholeBytes.{fields-put}
