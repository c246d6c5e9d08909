pub mod Marks
pub mod Rising
pub mod Lists
pub mod Locals
pub mod Booted
pub mod Placed
pub mod Told
pub mod LastBoots
pub mod RowsCluster
mod Rows
