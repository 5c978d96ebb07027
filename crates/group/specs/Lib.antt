-- The code's values as document 01's.
pub mod Refusals
pub mod Says
pub mod Values
pub mod Edition
pub mod Given
-- the entries behind the risks
pub mod Entries
