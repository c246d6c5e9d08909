pub mod Reasons
pub mod Texts
pub mod Laws
