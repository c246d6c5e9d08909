pub mod Calls
pub mod Notices
pub mod Nodes
pub mod Reports
pub mod Replies
