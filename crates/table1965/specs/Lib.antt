-- What the functions of the matrix and of the charges ask for and give.
pub mod Rows
pub mod Charges
