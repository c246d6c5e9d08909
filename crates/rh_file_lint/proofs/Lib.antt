pub mod OneMore
pub mod Steps
pub mod Standbys
pub mod PlacesTold
pub mod Parts
pub mod AllSound
pub mod EachTold
pub mod Listed
mod Samples
mod RowsSyncLists
mod RowsTimeouts
mod RowsNodeLists
mod RowsBootLists
mod RowsSeveralApps
