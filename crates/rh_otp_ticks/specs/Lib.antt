pub mod LeftOver
pub mod WaitsEnd
pub mod Moments
