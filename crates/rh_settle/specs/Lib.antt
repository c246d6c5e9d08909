pub mod Calls
pub mod Boards
pub mod Starting
pub mod Laws
