pub mod Colds
pub mod Wholes
pub mod Starts
