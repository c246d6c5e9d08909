pub mod Views
pub mod Rows
pub mod Blocks
pub mod NodeTimers
pub mod OpenCalls
pub mod Apps
pub mod Forbidden
pub mod Report
