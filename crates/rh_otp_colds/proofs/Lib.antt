pub mod Starting
pub mod Awaiting
pub mod Boot
pub mod Choosing
pub mod Whole
pub mod Last
pub mod Coming
pub mod Meanwhile
pub mod Each
mod Rows
