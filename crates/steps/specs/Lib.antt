-- The code's marks as those of document 01, with the bounds within which their dollars are computed; what the functions of the steps ask
-- for and give; and the code's terms.
pub mod Measures
pub mod Bounds
pub mod Basic
pub mod Terms
pub mod Marks
