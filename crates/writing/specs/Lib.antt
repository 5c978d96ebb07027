-- What is asked of given bits, and Write's answer as document 01's.
pub mod Fitting
pub mod Writer
