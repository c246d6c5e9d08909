pub mod Placed
pub mod Turns
pub mod Starting
pub mod Hearing
pub mod Costs
pub mod Following
mod Here
mod Coming
pub mod Settling
mod Beginning
pub mod Ticked
pub mod Alike
pub mod FailAlike
pub mod RowsTrio
mod RowsStates
mod RowsBoots
mod RowsUp
pub mod RowsLost
pub mod RowsStandby
pub mod Rows
