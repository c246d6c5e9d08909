pub mod Permits
pub mod Elsewhere
pub mod Stops
pub mod Calls
