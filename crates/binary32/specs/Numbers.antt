-- The numbers that the rules name. Definitions only.
use Rattle.std.specs.Prelude.{ℕ, false, pos, Float}
use Rattle.std.specs.Float.{fin, binary32}
use Rattle.std.specs.Float.Ieee.{of_int, div}

-- +0.0 and 1.0
abbrev pub plus_zero : Float
plus_zero = fin false 0 (pos 0)

abbrev pub one : Float
one = fin false 1 (pos 0)

-- the whole number k as a float: exact for k up to 2 ^ 24
abbrev pub of_whole : ℕ → Float
of_whole k = of_int binary32 (pos k)

-- v of `most` as a number from 0 to 1: v / most, rounded once
unfoldable pub unit_of : ℕ → ℕ → Float
unit_of most v = div binary32 (of_whole v) (of_whole most)
