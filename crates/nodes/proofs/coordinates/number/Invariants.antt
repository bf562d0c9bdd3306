-- After i inks the sum is that of the first i coordinates times their strides.
use Rattle.nodes.proofs.Strided.{SoFar}
use Rattle.nodes.proofs.coordinates.number.Given as goal

abbrev pub invariant-loop-i : goal.invariant-loop-i
invariant-loop-i l = SoFar l.lut.grid_strides l.coordinates l.i l.sum
