pub mod Faults
pub mod Asks
pub mod Lines
pub mod Nodes
pub mod ReportText
pub mod Replies
