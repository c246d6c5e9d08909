mod Moved
mod Turns
mod Question
mod Beginning
pub mod Following
mod Coming
pub mod Told
pub mod Spoken
pub mod Alike
pub mod Calls
mod RefusedTold
mod Refused
pub mod Rows
pub mod RowsCalls
