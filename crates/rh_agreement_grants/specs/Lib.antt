pub mod Grants
pub mod CallBacks
pub mod Calls
