mod Rows
pub mod Pairs
pub mod Seen
