-- A table file (File), what the reader refuses and owes (Refusals, Read), what the writer does (Written), both of a layout's sizes and
-- counts, as C asks (BySizes).
pub mod File
pub mod Refusals
pub mod Read
pub mod Written
pub mod BySizes
