pub mod Ending
pub mod Keeping
pub mod Turns
pub mod Pieces
pub mod Sweeps
