pub mod FoundText
pub mod FoundLines
pub mod Bases
pub mod LiveExplore
