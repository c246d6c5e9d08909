pub mod Noting
pub mod Passing
pub mod Staying
pub mod Going
pub mod Rows
pub mod Lengths
