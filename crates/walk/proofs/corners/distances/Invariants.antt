-- `walk::corners::distances`: an ink more each turn, the last one first.
use Rattle.walk.proofs.Steps.{Placed}
use Rattle.walk.proofs.corners.distances.Given as goal

abbrev pub invariant-loop-i : goal.invariant-loop-i
invariant-loop-i l = Placed l.axes l.first l.k l.initial.offs l.offs l.count l.i
