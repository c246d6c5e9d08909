pub mod Returns
pub mod Arrivals
