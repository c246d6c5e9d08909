pub mod State
pub mod First
pub mod Sending
pub mod Starting
pub mod Calls
pub mod Changes
pub mod Ending
