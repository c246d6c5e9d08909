mod Cells
mod Quiet
pub mod Standing
pub mod Held
pub mod Accepted
pub mod Steps
pub mod States
