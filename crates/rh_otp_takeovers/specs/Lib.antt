pub mod Takeovers
