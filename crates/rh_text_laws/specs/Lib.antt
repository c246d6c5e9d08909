pub mod Plans
pub mod PlanTexts
pub mod PlanLines
pub mod Profiles
pub mod ProfileFiles
pub mod ProfileTexts
