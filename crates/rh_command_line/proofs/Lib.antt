pub mod Asking
pub mod Commands
pub mod Matches
pub mod RowsCommandLine
