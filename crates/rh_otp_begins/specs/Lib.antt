pub mod Nowhere
pub mod Waiting
pub mod Here
