pub mod Telling
pub mod Laws
pub mod Resting
