pub mod OutcomeText
pub mod LiveSweep
pub mod OutcomeJson
pub mod LiveSweepJson
