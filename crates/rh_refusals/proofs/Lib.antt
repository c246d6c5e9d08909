pub mod Anywhere
pub mod FirstMissing
pub mod RefusedByHand
pub mod Accepted
pub mod Reasons
