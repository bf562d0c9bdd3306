-- Blocks of four (Blocks), cells and plans by steps (Steps), the corners of the further inks and the fold by halves (Walk), the inks that
-- are kept (Kept), the reads that are answered (Count), what a call may rely on (Calls).
pub mod Blocks
pub mod Steps
pub mod Walk
pub mod Kept
pub mod Count
pub mod Calls
