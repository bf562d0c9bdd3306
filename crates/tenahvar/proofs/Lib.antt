-- `Unique` has that each statement leaves one outcome. The others are laws on plain values, which the functions' proofs cite.
mod Laid
mod Codes
pub mod Unique
pub mod UniqueFiles
