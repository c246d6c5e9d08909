pub mod Stopping
pub mod Starting
pub mod Elsewhere
pub mod Moving
