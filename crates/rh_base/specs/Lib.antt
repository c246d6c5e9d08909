pub mod Letters
pub mod Tree
pub mod Lists
pub mod Exchanges
