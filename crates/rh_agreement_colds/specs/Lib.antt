pub mod Colds
