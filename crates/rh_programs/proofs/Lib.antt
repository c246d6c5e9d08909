pub mod Statuses
pub mod RowsStatus
