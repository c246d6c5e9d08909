pub mod Stops
pub mod Starts
pub mod Waits
pub mod Calls
