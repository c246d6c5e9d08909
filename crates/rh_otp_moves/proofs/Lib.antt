mod Still
pub mod Telling
mod Abroad
mod Late
mod Chain
pub mod Halting
mod Saying
pub mod Beginning
mod Moving
mod Calling
pub mod Taking
mod Permitting
pub mod Forbid
pub mod Permit
mod Away
pub mod Finding
mod Others
mod Holding
mod Passing
mod Crossing
mod Handing
mod Leading
mod Hearing
mod Together
mod Splitting
pub mod Handover
mod Rows
mod Failing
mod Three
