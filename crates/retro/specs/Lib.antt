-- What is known of the bytes read.
pub mod Input
