pub mod SimView
pub mod Chain
pub mod Lone
pub mod Laws
pub mod Words
pub mod Records
