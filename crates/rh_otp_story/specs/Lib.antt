pub mod Hanging
pub mod LiveStory
