pub mod Crashes
pub mod Failovers
