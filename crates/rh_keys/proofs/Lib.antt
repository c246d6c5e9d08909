pub mod Places
pub mod KeyParts
pub mod KeysApart
pub mod CodesApart
pub mod KeyCodes
pub mod KeyCells
pub mod TimersOff
pub mod Reading
pub mod Shifting
pub mod Settling
pub mod Changing
pub mod Passing
pub mod GoingOn
pub mod Accepting
mod Rows
