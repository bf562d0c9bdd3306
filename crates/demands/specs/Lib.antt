-- What demand 3 says of a lookup and a cut (Demand), and what document 02, E6, says of the lookup that skips (Idle).
pub mod Demand
pub mod Idle
