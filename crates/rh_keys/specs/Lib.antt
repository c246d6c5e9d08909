pub mod Keys
pub mod Packed
pub mod Codes
pub mod Laws
pub mod Shifts
pub mod ShiftLaws
