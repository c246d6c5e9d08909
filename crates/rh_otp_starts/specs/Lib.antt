pub mod Starts
pub mod Elsewhere
