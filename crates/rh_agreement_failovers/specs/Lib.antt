pub mod Failovers
