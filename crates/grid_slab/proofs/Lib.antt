-- `Without`, `Inserted`: lists and coordinates with one left out or put in. `Places`: where a slab's entries stand in the table, for any sizes. `Fewer`: the
-- layout of the other inks. `Slabs`: the slab of a layout's table. `Cutting`: what a cut owes and gives. `Unique`: one outcome.
pub mod Without
pub mod Inserted
pub mod Places
pub mod Fewer
pub mod Slabs
pub mod Cutting
pub mod Unique
