-- Laws of what the gates give, which the proofs of the crates above cite.
pub mod Given
