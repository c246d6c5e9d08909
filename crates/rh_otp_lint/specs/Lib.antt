pub mod Answers
pub mod Hanging
pub mod Twice
pub mod LiveSteps
pub mod LiveLint
