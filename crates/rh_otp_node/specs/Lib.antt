pub mod Live
pub mod Turns
pub mod Kernel
pub mod Boot
pub mod Remote
