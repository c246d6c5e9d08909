pub mod ClusterLines
pub mod Starts
pub mod Notices
pub mod Reports
pub mod AnswerLines
pub mod OutcomeLines
