pub mod Together
pub mod Booted
