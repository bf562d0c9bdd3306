pub mod Blanks
pub mod Shown
pub mod Unique
