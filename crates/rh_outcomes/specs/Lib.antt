pub mod Outcomes
pub mod Sweeping
