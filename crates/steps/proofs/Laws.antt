-- The laws that crates above cite: of the terms of a group, and of sums over its losses.
pub use Rattle.steps.proofs.Sums.{sum-limited, of-slice}
pub use Rattle.steps.proofs.Bounds.{within}
