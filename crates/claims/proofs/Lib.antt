-- Laws of a claim taken, of where a claim's word ends, of a risk's first claim, and of the loop over the counts.
mod Taking
mod Reach
mod Opening
mod Counting
mod ToCome
-- what crates above cite
pub mod Laws
