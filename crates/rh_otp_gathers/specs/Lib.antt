pub mod Gathers
pub mod LastBoot
