pub mod LiveText
pub mod Laws
