-- Sums, words of four bytes, filling; the blocks in turn, and how they are written and copied out (BlockWords, Files); what reading and writing owe, case by case (Reading,
-- Writing). The theorems: both ways round of the definition (ReadsBack, WritesBack), of the calls (RoundTrips), and of the calls through C (BySizes).
pub mod Sums
pub mod Fours
pub mod Filling
pub mod Parts
pub mod Bodies
pub mod BlockWords
pub mod Files
pub mod Reading
pub mod Writing
pub mod ReadsBack
pub mod WritesBack
pub mod RoundTrips
pub mod BySizes
pub mod Unique
