pub mod Decided
pub mod Refused
pub mod Numbers
pub mod Unique
