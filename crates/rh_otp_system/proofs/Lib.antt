pub mod Node
pub mod Moving
pub mod OneMore
pub mod Kept
pub mod Counting
