pub mod Same
pub mod Changing
mod Own
mod Controlling
mod Distributing
mod Handling
pub mod Turns
pub mod Working
pub mod Calling
pub mod Receiving
pub mod Going
pub mod Taking
pub mod Apart
pub mod Commuting
mod Leaving
pub mod Falling
pub mod Following
pub mod Picking
pub mod Moving
pub mod Reaching
pub mod Confluence
