pub mod Bare
pub mod Beside
pub mod Plans
