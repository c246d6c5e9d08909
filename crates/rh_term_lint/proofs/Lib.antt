pub mod Entries
pub mod Fewest
pub mod Told
pub mod Table
mod Rows
mod RowsFindings
