pub mod Chained
pub mod Trying
pub mod Branching
pub mod Strides
pub mod Turns
pub mod Rows
