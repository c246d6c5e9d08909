pub mod Sharing
pub mod Report
