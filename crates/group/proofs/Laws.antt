-- The laws that crates above cite: of a group's losses, of two verdicts, and of what is said of a call.
pub use Rattle.group.proofs.Verdicts.{verdict-and}
pub use Rattle.group.proofs.Calls.{keeps, sets, alone}
pub use Rattle.group.proofs.Group.{risks, group_is}
