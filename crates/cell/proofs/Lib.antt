-- `Said`: what clipping and the cell rule say of a number and of NaN. `Within`: where the product and what is made of it lie. `Digits`: its whole part from its bits. `Laws`: what callers may rely on of a cell. `Skipping`: where the Rust's cell is another. `Unique`: one outcome for each public function. Assumes nothing.
pub mod Said
pub mod Within
pub mod Digits
pub mod Laws
pub mod Skipping
pub mod Unique
