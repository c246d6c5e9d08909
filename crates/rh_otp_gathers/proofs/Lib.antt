pub mod Learning
pub mod Mailbox
pub mod Going
pub mod Tokens
pub mod Stages
pub mod Joining
pub mod Hearing
pub mod Owning
pub mod Meeting
pub mod Setting
pub mod Settling
pub mod Knowing
pub mod Opening
mod Rows
pub mod Booting
pub mod Begun
pub mod LastBoot
