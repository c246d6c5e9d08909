pub mod Keeping
pub mod Turns
mod Plain
