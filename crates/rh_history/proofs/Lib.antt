pub mod Cuts
pub mod States
pub mod Seen
pub mod Reversals
pub mod Overlays
