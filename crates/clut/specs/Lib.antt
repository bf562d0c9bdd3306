-- What values of one byte or of two become (Units), and what reading a CLUT element answers (Clut). The bytes of a width (Widths).
pub mod Units
pub mod Widths
pub mod Clut
