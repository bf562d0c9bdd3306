-- What stands at one place of the four arrays of an accepted layout's record.
-- Definitions only.
use Rattle.std.specs.Prelude.{ℕ, ◌-◌, ◌*◌, ◌<◌, ◌≡◌, List, get_or, take}
use Rattle.std.specs.Float.{nan}
use Rattle.binary32.specs.Numbers.{plus_zero, of_whole}
use Rattle.layout.specs.declared.MultidimensionalLut.{MultidimensionalLut}
use Rattle.layout.specs.Layout.{stride}

-- a record's sizes in use, first ink first
abbrev pub used_sizes : MultidimensionalLut → List ℕ
used_sizes lut = take lut.input_inks lut.grid_sizes

-- ink i's place
pub record UsedAt (lut : MultidimensionalLut) (i : ℕ) : Type 0 where
  pub above : 0 < get_or lut.grid_sizes i 0
  pub stride-is : get_or lut.grid_strides i 0 ≡ stride (used_sizes lut) i
  pub filling-is : get_or lut.grid_filling_size i 0 ≡ lut.output_inks * stride (used_sizes lut) i
  pub scale-is : get_or lut.grid_scale i nan ≡ of_whole (get_or lut.grid_sizes i 0 - 1)

-- an unused place
pub record UnusedAt (lut : MultidimensionalLut) (i : ℕ) : Type 0 where
  pub stride-is : get_or lut.grid_strides i 0 ≡ 1
  pub filling-is : get_or lut.grid_filling_size i 0 ≡ 1
  pub scale-is : get_or lut.grid_scale i nan ≡ plus_zero
  pub size_is : get_or lut.grid_sizes i 0 ≡ 0
