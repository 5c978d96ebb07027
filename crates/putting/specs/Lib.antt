-- The edition of a run, the claims that are given, and what putting a risk and the whole file asks for.
pub mod Edition
pub mod Claims
pub mod ClaimPut
pub mod Putting
