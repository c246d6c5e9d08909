pub mod Unmoved
pub mod Coming
pub mod Notes
mod Asking
pub mod Setting
pub mod Permitting
mod Forbidden
mod Hearing
mod Halting
mod Stopping
pub mod Noted
pub mod PermitAlike
mod FindAlike
mod ForbidAlike
pub mod Calls
pub mod Rows
mod RowsElsewhere
