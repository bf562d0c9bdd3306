-- Refusals (Refusals); `Shown` has `node-empty`, and `Unique` that each statement leaves one outcome.
mod Strided
mod Refusals
pub mod Shown
pub mod Unique
