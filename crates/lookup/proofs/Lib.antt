-- Laws on plain values, which the functions' proofs cite: a part of the table (Part), the answer by the last ink (LastInk), the
-- definition by one ink more (More), cells within the table (Reach), distances and ICC.1's order (Distances), all inks of an accepted
-- layout (Grid), its record (Accepted), NaN among the inputs (Nans), refusals (Refusals), the count of reads (Counts), a loop that sets
-- an entry a turn (Turns), slices (Room). `Unique` has that each statement leaves one outcome.
pub mod Part
mod LastInk
pub mod More
pub mod Turns
pub mod Room
mod Reach
pub mod Grid
mod Accepted
mod Distances
pub mod Nans
pub mod Refusals
pub mod Counts
pub mod Unique
