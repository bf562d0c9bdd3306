-- What the node reader shows (Node), and the refusals that come first (Checks).
pub mod Node
pub mod Checks
