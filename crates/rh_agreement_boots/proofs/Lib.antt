pub mod Ready
mod Hearing
pub mod Waiting
pub mod BootAlike
mod Begun
pub mod Counting
pub mod Alone
pub mod Calls
mod Rows
mod RowsWaiting
