-- A schedule and the call's answer as document 02's, and what a discount is computed from.
pub mod Schedules
pub mod Comparisons
