-- The refusals that come first, and what they leave, for the contracts of private functions alone: no public statement rests on this
-- file. Definitions only.
use Rattle.std.specs.Prelude.{ℕ, ◌≡◌, Bool, true, cond, not, List, length, reverse}
use Rattle.outcome.specs.Outcome.{Decides}
use Rattle.layout.specs.declared.MultidimensionalLut.{MultidimensionalLut}
use Rattle.layout.specs.Order.{in_grid}
use Rattle.layout.specs.Layout.{IsLayout, ink_sizes, entries}
use Rattle.layout.specs.Lengths.{length_refusal}

-- 9, 6 and 7, before others
abbrev pub checks : Bool → MultidimensionalLut → ℕ → ℕ → ℕ → ℕ
checks laid lut table given others = cond (not laid) 9 (length_refusal (entries lut) lut.input_inks table given others)

pub record Checked (lut : MultidimensionalLut) (table given : ℕ) (r : ℕ) : Type 0 where
  pub laid : Bool
  pub decides : Decides laid (IsLayout lut)
  pub number : r ≡ checks laid lut table given 0

-- the coordinates, first ink first, are those of a node of the layout
pub record IsNode (lut : MultidimensionalLut) (coordinates : List ℕ) : Type 0 where
  pub layout : IsLayout lut
  pub as_many : length coordinates ≡ lut.input_inks
  pub inside : in_grid (ink_sizes lut) (reverse coordinates) ≡ true
