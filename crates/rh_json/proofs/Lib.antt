pub mod Turns
pub mod Lines
pub mod Told
pub mod Front
pub mod Memory
pub mod Texts
pub mod SweepLines
