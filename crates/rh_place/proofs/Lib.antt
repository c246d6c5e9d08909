pub mod Bits
pub mod Picks
pub mod Nowhere
pub mod Beyond
mod Rows
mod Needs
