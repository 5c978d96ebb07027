-- What taking a claim asks for and gives, what a run of claims comes to, and what the counts of risks give.
pub mod Claim
pub mod Run
pub mod Sums
pub mod Counts
pub mod Cursor
