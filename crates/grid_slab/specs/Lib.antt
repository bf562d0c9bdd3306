pub mod Slab
pub mod Runs
