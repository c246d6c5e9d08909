pub mod Answers
pub mod Ticks
pub mod Lengths
pub mod Again
pub mod Verified
