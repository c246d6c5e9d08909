pub mod Firing
pub mod Stored
pub mod Formed
pub mod Edits
