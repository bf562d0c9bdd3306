-- Document 01, "Weights for 8-bit codes". Definitions only.
use Rattle.std.specs.Prelude.{ℕ, Result, ◌+◌, ◌-◌, ◌*◌, ◌/◌, min, cond, eqb, List, Float, replicate}
use Rattle.std.specs.Result.{result_unwrap_or}
use Rattle.std.specs.Float.{binary32}
use Rattle.std.specs.Float.Ieee.{sub, mul, of_bits}
use Rattle.outcome.specs.declared.Refusal.{Refusal}
use Rattle.outcome.specs.Refused.{number_in}
use Rattle.lists.specs.Lists.{tabulate}
use Rattle.binary32.specs.Numbers.{plus_zero, of_whole}
use Rattle.cell.specs.declared.Cell.{Cell}

-- the f32 nearest to 1/255
abbrev pub per_code : Float
per_code = of_bits binary32 0x3b80_8081

-- s: `last`, which is g - 1, times that, rounded
unfoldable pub scale_of : ℕ → Float
scale_of last = mul binary32 (of_whole last) per_code

-- x is index·last/255 cut to a whole number, x_n the smaller of x + 1 and last, and the weight is index·s - x: the product is rounded, then the difference
unfoldable pub cell_of : ℕ → Float → ℕ → Cell
cell_of last s index =
    let x = index * last / 255 in
    record { x = x; x_n = min (x + 1) last; w = sub binary32 (mul binary32 (of_whole index) s) (of_whole x) }

unfoldable pub weight_cell : ℕ → ℕ → Cell
weight_cell g index = cell_of (g - 1) (scale_of (g - 1)) index

-- refused weights are zeros
abbrev pub zero_cell : Cell
zero_cell = record { x = 0; x_n = 0; w = plus_zero }

-- the weight of one code: its number and its cell
pub record RangedCell : Type 0 where
  pub refusal : ℕ
  pub cell : Cell

-- the weights of all 256 codes, with one number
pub record Ranged : Type 0 where
  pub refusal : ℕ
  pub weights : List Cell

-- what an answer says
abbrev pub ranged_cell_in : Result Cell Refusal → RangedCell
ranged_cell_in answer = record { refusal = number_in answer; cell = result_unwrap_or answer zero_cell }

abbrev pub ranged_in : Result (List Cell) Refusal → Ranged
ranged_in answer = record { refusal = number_in answer; weights = result_unwrap_or answer (replicate 256 zero_cell) }

-- a grid of size 0 is refused with 3
unfoldable pub ranged_cell : ℕ → ℕ → RangedCell
ranged_cell g index = cond (eqb g 0) (record { refusal = 3; cell = zero_cell }) (record { refusal = 0; cell = weight_cell g index })

unfoldable pub ranged : ℕ → Ranged
ranged g = cond (eqb g 0) (record { refusal = 3; weights = replicate 256 zero_cell }) (record { refusal = 0; weights = tabulate 256 (weight_cell g) })
