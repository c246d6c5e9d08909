pub mod LintJson
pub mod LintText
