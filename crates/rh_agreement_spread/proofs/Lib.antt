pub mod Summing
pub mod Hearing
pub mod Following
pub mod Alike
mod Ended
pub mod Speaking
mod Over
pub mod Told
mod StopAlike
pub mod Placed
pub mod HearingStarts
pub mod Running
mod StartTurns
mod Starting
pub mod StartAlike
mod Waiting
mod WaitTold
mod Away
pub mod WaitAlike
pub mod Calls
mod RowsCluster
mod Rows
mod RowsStart
pub mod RowsPair
pub mod RowsTwo
pub mod RowsTwoCalls
