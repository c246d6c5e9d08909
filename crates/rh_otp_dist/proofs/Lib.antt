pub mod Answers
pub mod Down
pub mod Locals
pub mod Permitted
pub mod Rows
pub mod Walk
