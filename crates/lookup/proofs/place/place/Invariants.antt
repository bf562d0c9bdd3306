-- The first i inputs are numbers, and their inks' cells stand in the first i places.
use Rattle.std.proofs.Common.{◌≡◌, reverse, take}
use Rattle.lookup.specs.Places.{first_inks, NoNans}
use Rattle.lookup.proofs.place.place.Given as goal

abbrev pub invariant-loop-i : goal.invariant-loop-i
invariant-loop-i l = record {
  standing : reverse (take l.i l.cells) ≡ first_inks l.lut.grid_filling_size l.lut.grid_sizes l.inputs l.i;
  numbers : NoNans l.inputs l.i;
}
