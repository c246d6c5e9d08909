pub mod FaultWords
pub mod Workers
