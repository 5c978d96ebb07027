-- Laws of a claim more, in either edition, of a risk passed, and of the loop over risks.
mod Summing
mod Joining
mod Passing
mod WalkLoop
-- the running sums over calls of `pass_risk`, one after another, which crates above cite
pub mod RunningSums
