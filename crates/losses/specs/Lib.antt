-- What adding a claim asks for and gives, in either edition; what a risk comes to, and the running sums with it; and what the walk gives.
pub mod Singles
pub mod Accidents
pub mod Risk
pub mod RunningSums
pub mod Walks
