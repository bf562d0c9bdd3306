-- `Numbers`: +0.0, 1.0 and whole numbers. `Range`: where a float lies. `Same`: equal but for the sign of a zero. `Blend`: the blends of document 01.
pub mod Numbers
pub mod Range
pub mod Same
pub mod Blend
