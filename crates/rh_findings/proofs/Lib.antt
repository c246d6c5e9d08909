pub mod Ties
pub mod OneList
pub mod Blocks
pub mod Passed
mod RowsParts
