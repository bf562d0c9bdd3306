-- The three blends over eight corners (Blends), a call on a cube (Cube), and how the code keeps the corners (Corners).
pub mod Blends
pub mod Cube
pub mod Corners
