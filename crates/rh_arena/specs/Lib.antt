pub mod Words
pub mod Link
pub mod Exchange
pub mod Lists
pub mod WellFormed
pub mod Linking
pub mod Spots
pub mod SideBySide
