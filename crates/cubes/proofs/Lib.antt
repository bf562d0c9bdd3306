-- Where the corners stand (Reach), what the checks pass (Accepted), one outcome each (Unique).
pub mod Reach
pub mod Accepted
pub mod Unique
