pub mod Timely
pub mod Forgetting
pub mod Muting
pub mod Firing
mod Following
pub mod Leading
pub mod InTime
pub mod Untold
pub mod WaitsEnd
pub mod Ticking
pub mod Rows
mod Again
mod RowsWaits
