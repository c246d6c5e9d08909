pub mod Searches
pub mod Fuel
pub mod SettlingLaws
pub mod Making
pub mod Soundly
pub mod Unchanged
pub mod Still
pub mod FieldLaws
pub mod SetTables
pub mod TakenMarks
pub mod Touches
pub mod Boards
pub mod GroupWalks
pub mod Callers
pub mod Movers
pub mod Starts
pub mod StartsMarked
mod Rows
mod RowsReady
mod RowsOrder
pub mod Resting
