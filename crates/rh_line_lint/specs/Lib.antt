pub mod Arguments
pub mod Commands
pub mod Laws
pub mod Lines
pub mod StepWords
