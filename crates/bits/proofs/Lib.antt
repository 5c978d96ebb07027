-- Laws of words, of the fields that lie in them, and of taking and putting, one field or a run of them.
mod Shifts
mod Takes
mod OneByte
mod Parts
mod Whole
mod Fronts
mod Puts
mod Runs
mod Regrouped
mod WholeBytes
mod Holding
-- what crates above cite
pub mod Laws
