-- The rule of the weights.
pub mod Rule
