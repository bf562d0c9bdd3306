-- Document 01, "Finding the cell": what a cell of one ink is. Definitions only.
use Rattle.std.specs.Prelude.{ℕ, Option, None, Some, ◌+◌, ◌-◌, ◌*◌, ◌≤◌, min, Bool, true, false, cond, is_nan, nat_lt, Float}
use Rattle.std.specs.Float.{binary32}
use Rattle.std.specs.Float.Ieee.{sub, mul, lt, to_unsigned}
use Rattle.binary32.specs.Numbers.{plus_zero, one, of_whole}
use Rattle.binary32.specs.Range.{Below}
use Rattle.cell.specs.declared.Cell.{Cell}

-- grid line k as a float
abbrev pub line : ℕ → Float
line k = of_whole k

-- the ink of a number: above 1 is 1, above 0 is itself, all else, both zeros included, +0.0
unfoldable pub ink_of : Float → Float
ink_of x = cond (lt one x) one (cond (lt plus_zero x) x plus_zero)

-- document 02, E8: what clipping says: nothing of a NaN, for which a lookup's number is 16, else the ink
unfoldable pub clip_of : Float → Option Float
clip_of x = cond (is_nan x) None (Some (ink_of x))

-- the last grid line, g - 1
abbrev pub scale_of : ℕ → Float
scale_of g = line (g - 1)

-- p: the ink of a number times g - 1, rounded
unfoldable pub product_of : Float → ℕ → Float
product_of x g = mul binary32 (ink_of x) (scale_of g)

-- the whole part, which is what Rust's `as usize` gives
abbrev pub whole_of : Float → ℕ
whole_of p = to_unsigned 64 p

-- p rounded up: its whole part, and one more where p is above that
unfoldable pub up_of : Float → ℕ
up_of p = whole_of p + cond (lt (line (whole_of p)) p) 1 0

-- p minus its whole part, rounded
unfoldable pub weight_of : Float → Float
weight_of p = sub binary32 p (line (whole_of p))

-- document 02, E4: the lower node plus one, but never past g - 1
unfoldable pub next_of : ℕ → ℕ → ℕ
next_of lower g = min (lower + 1) (g - 1)

-- the cell of an ink whose product is p, with its upper node
abbrev pub cell_at : Float → ℕ → Cell
cell_at p upper = record { x = whole_of p; x_n = upper; w = weight_of p }

-- inks 1 to 4
unfoldable pub cell_low : Float → ℕ → Cell
cell_low x g = let p = product_of x g in cell_at p (up_of p)

-- inks 5 and up
unfoldable pub cell_high : Float → ℕ → Cell
cell_high x g = let p = product_of x g in cell_at p (next_of (whole_of p) g)

-- the cell of ink i, counted from 0, in a grid of g lines: inks 1 to 4 take one rule, inks 5 and up the other
unfoldable pub ink_cell : ℕ → ℕ → Float → Cell
ink_cell i g x = cond (nat_lt i 4) (cell_low x g) (cell_high x g)

-- what the cell rule says of an input x: nothing of a NaN, else its cell as a number, c
abbrev pub found_of : Float → Cell → Option Cell
found_of x c = cond (is_nan x) None (Some c)

-- a cell with its nodes as distances: s entries from one node to the next
abbrev pub scale : ℕ → Cell → Cell
scale s c = record { x = c.x * s; x_n = c.x_n * s; w = c.w }

-- a cell's lower node (false) or its upper one (true)
abbrev pub node : Cell → Bool → ℕ
node c false = c.x
node c true = c.x_n

-- what a caller may rely on: both nodes are among the lines 0 to n, one or neighbours, and the weight is from +0 up and below 1
pub record OnGrid (n : ℕ) (c : Cell) : Type 0 where
  pub lower : c.x ≤ n
  pub upper : c.x_n ≤ n
  pub ordered : c.x ≤ c.x_n
  pub neighbours : c.x_n ≤ c.x + 1
  pub weight : Below 1 c.w
