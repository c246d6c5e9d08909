pub mod Order
pub mod Report
pub mod Sentences
pub mod Laws
pub mod Scan
pub mod Starts
pub mod Parts
pub mod Words
