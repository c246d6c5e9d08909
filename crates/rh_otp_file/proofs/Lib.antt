pub mod Kept
pub mod OwnTerms
mod Rows
