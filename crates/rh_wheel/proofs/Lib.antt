pub mod Arming
pub mod ArmedSlots
pub mod Cancelling
pub mod CancelledSlots
pub mod Earliest
pub mod Exchanging
pub mod Finding
pub mod Order
mod Rows
pub mod Slots
pub mod Walking
