pub mod Beginning
pub mod AtFirst
mod Reversing
pub mod Refusing
pub mod Resting
pub mod Stepping
pub mod Quiet
pub mod Ending
mod Crashing
pub mod Bounded
mod CrashAlike
pub mod Rest
pub mod Peace
pub mod Always
mod Rows
mod RowsCrashes
mod RowsPeace
