-- Read's answer as document 01's, and what its parts ask for.
pub mod Reading
