pub mod Blamed
pub mod OneMore
pub mod Seen
pub mod Taken
