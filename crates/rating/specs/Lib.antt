-- The bills as the code puts them, and the answers of Rate and of the details as document 01's.
pub mod Bills
pub mod Rates
pub mod Details
