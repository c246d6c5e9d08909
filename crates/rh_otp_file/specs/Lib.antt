pub mod Distributed
pub mod Waits
pub mod Files
pub mod Laws
