pub mod Arrays
pub mod Looks
pub mod Rows
