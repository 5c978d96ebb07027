-- Laws of a group's numbers and of sums over its losses.
mod Sums
mod Group
mod Bounds
-- what crates above cite
pub mod Laws
