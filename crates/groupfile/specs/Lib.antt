-- What taking the header and opening a file give.
pub mod Header
pub mod Opening
