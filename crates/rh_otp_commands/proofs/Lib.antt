pub mod Alike
pub mod Booting
pub mod Beginning
pub mod Firing
pub mod Possible
pub mod Settling
pub mod Ticking
pub mod OneWay
mod Rows
