pub mod Lists
pub mod Tallies
pub mod Lengths
pub mod Answering
pub mod Ways
pub mod Standing
