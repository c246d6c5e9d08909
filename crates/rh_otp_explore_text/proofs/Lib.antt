pub mod BaseLines
pub mod Searched
