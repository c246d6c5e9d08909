pub mod Faults
pub mod RunText
pub mod Programs
pub mod CheckText
pub mod SweepText
