mod Keeping
mod Starting
mod Resuming
mod Turning
mod Working
mod Calling
mod Moving
pub mod Locks
mod Rows
