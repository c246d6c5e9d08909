pub mod Nowhere
pub mod Left
pub mod Hearing
pub mod Running
mod Meeting
pub mod Here
mod Rows
