-- What the functions of Table ask for and give.
pub mod Tables
