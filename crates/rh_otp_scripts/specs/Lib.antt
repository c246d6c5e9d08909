pub mod Scripts
pub mod Boots
