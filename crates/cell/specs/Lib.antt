-- `Rule`: what a cell of one ink is, and what a caller may rely on. `Skipping`: where the Rust's cell is another.
pub mod Rule
pub mod Skipping
pub mod Props
