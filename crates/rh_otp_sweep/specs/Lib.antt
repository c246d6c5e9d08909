pub mod Outcomes
pub mod Sweeping
pub mod Working
