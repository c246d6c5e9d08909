pub mod Kept
pub mod Reversals
pub mod Steps
mod Rows
