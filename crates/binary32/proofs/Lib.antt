-- Either format: `Values`, floats as exact fractions; `Exact`, where nothing is rounded; `Ranges`, `UpTo` and `Below`; `Whole`, the whole part; `Errors`, how far `round` moves.
-- binary32: `Units`, values as whole numbers of smallest values; `Near`, the error of one operation; `Held`, values from 0 to 1 but for a bound; `Means`, `Terms`, `Tetrahedron`,
-- the bound laws of the blends; `Compared`, comparisons in units; `Signs`, zeros of both signs; `Nodes`, the blends at a weight of zero. `Unique`: one outcome for each function. Assumes nothing.
pub mod Values
pub mod Exact
pub mod Ranges
pub mod Whole
pub mod Errors
pub mod Units
pub mod Near
pub mod Held
pub mod Means
pub mod Compared
pub mod Terms
pub mod Tetrahedron
pub mod Signs
pub mod Nodes
pub mod Unique
