pub mod Stops
pub mod Starts
pub mod Calm
