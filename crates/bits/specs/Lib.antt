-- What joining and inserting bits, taking and putting a field, and putting a run of fields ask for and give.
pub mod Words
pub mod Take
pub mod Put
pub mod Begun
pub mod Runs
