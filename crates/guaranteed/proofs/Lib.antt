-- Laws of a schedule's rows, of the loop over differences, and of the call's answer.
mod Rows
mod Differencing
mod Answers
