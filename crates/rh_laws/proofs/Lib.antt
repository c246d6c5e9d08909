pub mod ClockAlone
pub mod FailsOver
pub mod Apart
pub mod OneAnswer
pub mod AllAtOnce
pub mod BestNodes
pub mod LessStarted
pub mod Stopping
pub mod OneByOne
pub mod Texts
pub mod ShownWords
pub mod ReportLines
pub mod ShownParts
pub mod ShownNodes
pub mod StateFits
pub mod DueSoon
pub mod ReportTells
pub mod BootsReady
mod Rows
mod RowsStops
mod RowsBoots
mod RowsReports
mod RowsLinks
