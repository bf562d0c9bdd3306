-- What each exported function owes: a layout and a total (Layout), a node's place (Node), a slab cut out (Slab), the weights of 8-bit
-- codes (Weights), the cube methods (Cubes), a CLUT element read (Clut). A lookup owes what lookup's own by sizes does, values read what
-- clut's `read_units` does, a table file what flash's specs/BySizes.antt says.
pub mod Layout
pub mod Node
pub mod Slab
pub mod Weights
pub mod Cubes
pub mod Clut
