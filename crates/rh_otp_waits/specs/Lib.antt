pub mod Waits
pub mod Together
