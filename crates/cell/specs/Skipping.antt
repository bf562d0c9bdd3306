-- Demand 2 since request E4: equal to the Rust except where the rounded p + 1 skips a node and that is still at or below g - 1. No contract rests on this file. Definitions only.
use Rattle.std.specs.Prelude.{ℕ, ◌+◌, ◌-◌, ◌≤◌, cond, Float}
use Rattle.std.specs.Float.{binary32}
use Rattle.std.specs.Float.Ieee.{add, lt}
use Rattle.binary32.specs.Numbers.{one}
use Rattle.cell.specs.Rule.{scale_of, whole_of}

-- p + 1, rounded
abbrev pub sum_of : Float → Float
sum_of p = add binary32 p one

-- the Rust's upper node of inks 5 and up, which was document 01's before E4: the whole part of the smaller of p + 1, rounded, and g - 1
unfoldable pub rust_next_of : Float → ℕ → ℕ
rust_next_of p g = whole_of (cond (lt (sum_of p) (scale_of g)) (sum_of p) (scale_of g))

-- p + 1, rounded, skips the node after the lower one, and the node it comes to is still at or below g - 1
abbrev pub Skips : Float → ℕ → Type 0
Skips p g = (whole_of p + 2 ≤ whole_of (sum_of p)) × (whole_of (sum_of p) ≤ g - 1)
