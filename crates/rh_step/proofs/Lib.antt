pub mod Reasons
pub mod Comes
pub mod TakenOff
pub mod Fuel
pub mod FiredSound
pub mod TickLaws
pub mod AnyTime
pub mod TickedValid
pub mod FiresAll
pub mod TimeLaws
pub mod FirstStates
pub mod Validity
pub mod Outcomes
pub mod Counts
pub mod NextAfter
pub mod Performing
pub mod Following
pub mod Firing
mod Rows
mod RowsElsewhere
mod RowsTime
mod RowsByItself
mod RowsEverywhere
mod RowsPermissions
pub mod FiringsTold
pub mod StartsFewer
pub mod StartsKept
