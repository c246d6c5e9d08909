pub mod Noting
mod Crossing
pub mod Asking
pub mod Permit
mod Rows
