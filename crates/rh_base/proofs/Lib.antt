pub mod Trees
pub mod Lists
pub mod Elements
pub mod Exchanges
pub mod Truths
