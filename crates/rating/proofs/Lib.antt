-- Laws of the loop that puts the bills and of Rate's answer, which functions' proofs cite.
pub mod Billing
mod Answers
