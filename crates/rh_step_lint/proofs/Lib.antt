pub mod Beyond
pub mod Joined
pub mod Untouched
pub mod Ranks
pub mod Unlikely
mod Scene
mod RowsStarts
mod RowsOthers
mod RowsFindings
