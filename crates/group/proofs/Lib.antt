-- Laws of the code's losses and verdicts.
mod Group
mod Verdicts
mod Calls
-- what crates above cite
pub mod Laws
