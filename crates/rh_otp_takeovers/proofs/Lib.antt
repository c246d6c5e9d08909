mod Holding
pub mod Asking
pub mod Taking
mod Moving
pub mod Telling
mod Meeting
pub mod Running
pub mod Takeover
mod Rows
mod Failing
