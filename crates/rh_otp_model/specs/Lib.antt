pub mod Processes
pub mod Own
pub mod Rows
pub mod Flags
