-- What the gate of questions 1 to 12 gives.
pub mod Gates
