pub mod Outcome
pub mod Refused
