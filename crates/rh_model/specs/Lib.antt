pub mod TermSymbols
pub mod ClusterView
pub mod Limits
pub mod Names
pub mod Needs
pub mod Marks
