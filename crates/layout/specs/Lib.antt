pub mod Order
pub mod Layout
pub mod Places
pub mod Tested
pub mod Lengths
