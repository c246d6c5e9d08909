pub mod Clusters
pub mod PlanReplies
pub mod PlanRefusals
pub mod PlanTexts
pub mod PlanInputs
pub mod PlanLines
pub mod ProfileMoves
pub mod ProfileChanges
pub mod Profiles
pub mod ProfileReplies
pub mod ProfileFiles
pub mod ProfileTexts
pub mod ProfileSweeps
mod RowsPlans
mod RowsProfiles
mod RowsInputs
mod RowsScripts
mod RowsPrograms
