mod Manual
mod Cells
mod Live
mod Together
mod Permuted
mod Counting
mod Grouped
mod Asked
mod Lines
mod Seen
mod ColdAlike
pub mod Calls
pub mod RowsStrangers
pub mod RowsFiles
mod Rows
