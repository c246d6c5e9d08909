mod Twins
mod Asking
mod Moving
mod Resembling
pub mod Waiting
mod Cells
mod Refusing
mod Acting
mod Stepping
mod Rehearsing
mod Reporting
mod OneWay
mod Covering
mod Rows
mod ColdNames
mod ColdFailover
mod RowsCold
