pub mod Firings
pub mod Laws
pub mod Counts
pub mod Starting
pub mod Runs
