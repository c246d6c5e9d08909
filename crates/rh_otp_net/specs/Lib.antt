pub mod Alike
pub mod Links
pub mod Locks
pub mod Matrix
pub mod Order
pub mod Queue
pub mod Timers
