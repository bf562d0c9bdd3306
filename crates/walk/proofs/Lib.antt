-- `Blocks`: blocks of four, loaded, stored, given. `Pairs`: one ink and two. `Weights`: comparing weights. `Tetrahedron`: the plan by steps. `Above`: inks above
-- three. `Folding`: the folded corners are the answer above three inks. `Halving`: the loop that folds. `Steps`: inks by their steps, the distances of their
-- corners. `Cornering`: the loop over the corners. `Answers`: block by block, the answers. `Reading`: the inputs one by one. `Stepping`: a lookup by steps is the
-- lookup by both nodes. `Kept`: the inks that are kept, and the reads. `Grids`: all inks of an accepted layout. `Cubes`: three inks and those above them. `Counting`: one ink and two, of which none is skipped. `BySizes`: that layout by its sizes. `Unique`: one outcome, and the first engine's.
mod Blocks
mod Pairs
mod Weights
mod Tetrahedron
mod Above
mod Folding
mod Halving
mod Steps
mod Cornering
mod Answers
mod Reading
mod Stepping
mod Kept
mod Grids
mod Cubes
mod Counting
mod BySizes
pub mod Unique
