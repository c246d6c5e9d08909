pub mod Takeovers
pub mod Calls
pub mod Refused
