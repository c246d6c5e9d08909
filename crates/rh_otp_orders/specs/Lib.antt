pub mod Orders
pub mod Confluence
