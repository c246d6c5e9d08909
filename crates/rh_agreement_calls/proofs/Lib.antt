pub mod Fewer
mod Ended
pub mod Controlling
pub mod Moving
pub mod Told
pub mod ByHand
pub mod CallAlike
mod StopAlike
pub mod Started
pub mod Starting
pub mod StartTold
mod StartAlike
pub mod Calm
mod Rows
mod RowsStart
