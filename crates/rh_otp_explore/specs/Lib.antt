pub mod Coming
pub mod Due
pub mod Asking
pub mod Listing
pub mod Tallying
pub mod Searching
pub mod Working
