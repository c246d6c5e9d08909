mod Linking
mod Growing
mod Seeing
mod Going
pub mod Naming
mod Removing
pub mod Waiting
pub mod Meeting
pub mod Begun
pub mod Boot
pub mod Together
mod Rows
