mod Timers
mod LeftOver
mod OnWay
mod Unseen
mod Running
mod FailsOver
mod Modes
mod Fading
mod WaitEnds
mod Telling
mod Through
mod EndsByRules
mod ByRules
mod Answered
pub mod Ticking
mod Rows
mod RowsWaits
