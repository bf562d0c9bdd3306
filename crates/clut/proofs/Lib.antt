-- Entries one after another (Entries). What reading an element owes, case by case (Reading); that what is read is from 0 to 1 (Shares); one outcome for each function (Unique).
mod Entries
pub mod Reading
pub mod Shares
pub mod Unique
