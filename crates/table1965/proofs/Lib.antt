-- The rows of the matrix; that the charge is within a millionth of the exact quotient (Within), and what that rests on: the error of a
-- rounding, of a product, a sum and a quotient, of the formula's denominator, and two facts of the matrix; and what the proofs of the
-- functions share.
mod Rows
mod Near
mod Rounding
mod Product
mod Sum
mod Division
mod Formula
mod Charge
mod Sweep
mod Within
mod Literals
mod Answers
