pub mod HasReason
pub mod Told
pub mod Awaiting
mod Rows
