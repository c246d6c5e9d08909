pub mod PlainNode
pub mod Alike
pub mod Texts
pub mod Prefix
pub mod Crossing
mod NeedsKept
mod Marks
mod TakenMarks
mod MarksKept
