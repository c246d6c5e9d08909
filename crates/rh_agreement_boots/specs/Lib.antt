pub mod Boots
pub mod Waiting
pub mod Calls
