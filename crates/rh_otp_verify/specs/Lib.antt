pub mod LiveVerify
pub mod Laws
