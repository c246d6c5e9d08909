pub mod Walks
pub mod Permissions
pub mod RowsReport
