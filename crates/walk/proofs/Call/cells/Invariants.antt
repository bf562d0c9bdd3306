-- `walk::Call::cells`: the first i inks are numbers and stand at their places.
use Rattle.walk.proofs.Stepping.{Stepping}
use Rattle.walk.proofs.Call.cells.Given as goal

abbrev pub invariant-loop-i : goal.invariant-loop-i
invariant-loop-i l = Stepping l.self l.axes l.at l.i
