pub mod LookedShapes
pub mod FoundInKept
mod RowsCuts
mod RowsDiffering
mod RowsHints
mod RowsWays
