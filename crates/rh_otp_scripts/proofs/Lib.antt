pub mod Words
pub mod Controlling
pub mod Speaking
mod Requesting
mod Running
mod Underway
mod Coming
mod Crossing
mod Meeting
mod Ending
pub mod Script
pub mod Rows
