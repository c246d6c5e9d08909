pub mod Bare
pub mod Courses
pub mod Roots
pub mod Shares
pub mod Crossing
