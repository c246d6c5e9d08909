pub mod Sweeps
pub mod Bases
