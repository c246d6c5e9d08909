pub mod Telling
pub mod HeadText
pub mod LineText
pub mod TableText
pub mod StoryText
