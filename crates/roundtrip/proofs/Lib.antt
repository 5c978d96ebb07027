-- Reader and writer undo each other: the contracts of the two calls, joined.
pub mod RoundTrip
