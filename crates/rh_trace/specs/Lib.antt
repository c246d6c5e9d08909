pub mod Traces
pub mod Counts
pub mod Ways
pub mod Making
pub mod Validity
