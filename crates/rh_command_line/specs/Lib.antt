pub mod Table
pub mod CommandLine
pub mod Asking
