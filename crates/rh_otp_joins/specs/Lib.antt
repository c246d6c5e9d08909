pub mod Connections
pub mod Leading
pub mod Joins
