pub mod Rooms
pub mod Orders
pub mod Shares
pub mod Differences
pub mod Crossing
pub mod Rows
