pub mod Everywhere
pub mod Laws
pub mod Counts
