-- Documents 01 and 02 as definitions, in their order, which a reader must believe. What follows from them is the crate `laws`.
pub mod Arithmetic
pub mod Sizes
-- The group file
pub mod Field
pub mod Header
pub mod Claim
pub mod Risk
pub mod File
-- Document 02, job 4: accidents
pub mod Accidents
-- From claims to premiums: steps 1 to 6, and demand 3
pub mod Losses
pub mod Marks
pub mod Ratable
pub mod Basic
pub mod Premium
pub mod Demand3
-- What a call is, and document 01's calls
pub mod Call
pub mod Table
pub mod Calls
-- Questions a file must pass, and what a Yes to them says
pub mod Questions
pub mod Bounds
-- Document 02, job 1: guaranteed cost beside the retro premium
pub mod Discount
pub mod Comparison
-- Document 02, job 5: charges of the 1965 table
pub mod Doubles
pub mod Matrix
pub mod Charge
-- Document 02, job 6: plans sold on premiums
pub mod SoldOnPremiums
-- All calls in one table
pub mod CallTable
