pub mod AppLists
pub mod FirstStates
pub mod Listings
pub mod TimerNumbers
pub mod Pairs
pub mod PairLists
pub mod Links
pub mod Places
pub mod Walking
pub mod Formed
pub mod Crossing
mod Rows
pub mod Records
pub mod Tables
pub mod Cut
pub mod Twice
pub mod ListWalks
