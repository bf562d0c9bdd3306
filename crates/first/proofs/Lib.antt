-- `Unique` has that the statement leaves one outcome.
pub mod Unique
