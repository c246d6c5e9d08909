pub mod Return
mod Single
mod Staying
mod Connecting
mod Waking
pub mod Arrival
mod Rows
mod RowsArrivals
mod RowsAmong
