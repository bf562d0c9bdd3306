-- Document 01's checked numbers: every case of the table is right. antt computes it from the definitions.
-- Assumes nothing.
use mathlib.Core.Path.{◌≡◌, refl}
use mathlib.Core.Bool.{true}
use lib.Ieee.{of_bits, to_bits, of_int, to_unsigned, is_nan, add, sub, mul, div, lt, le}
use Rattle.lists.specs.Lists.{tabulate, every, some, last_first, product}
use Rattle.cell.specs.Rule.{ink_of, product_of, up_of, weight_of, next_of, cell_low, cell_high, ink_cell}
use Rattle.layout.specs.Order.{index}
use Rattle.layout.specs.Layout.{is_count, record_of, zeros, refused_by, laid_using, laid_of}
use Rattle.lookup.specs.Lookup.{lookup_with}
use Rattle.lookup.specs.Table.{cells, answer_with, refusal}
use Rattle.weights.specs.Rule.{scale_of, cell_of, weight_cell, ranged_cell}
use Rattle.cubes.specs.Cube.{on_grid}
use Rattle.cubes.specs.Cube as Cube
use Rattle.checked.specs.Cases as Cases
use Rattle.checked.specs.Cases.{all, bits, total_of, strides_of, look_of, between, cube_of, answers, same_numbers, right, over, up_to5, corner, last_at, just_under, cases}

pub checked : every right cases ≡ true
unfolding of_bits to_bits of_int to_unsigned is_nan add sub mul div lt le tabulate every some last_first product ink_of product_of up_of weight_of next_of cell_low cell_high index is_count record_of zeros refused_by laid_using laid_of lookup_with ink_cell cells answer_with refusal scale_of cell_of weight_cell ranged_cell on_grid Cube.answer_at Cube.refusal all bits total_of strides_of look_of between cube_of Cases.weight_of answers same_numbers right over up_to5 corner last_at just_under cases
checked = refl
