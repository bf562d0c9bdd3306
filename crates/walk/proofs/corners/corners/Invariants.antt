-- `walk::corners::corners`: a block more each turn.
use Rattle.walk.specs.Steps.{tetra_of, first_three}
use Rattle.walk.specs.Walk.{Cornered}
use Rattle.walk.proofs.corners.corners.Given as goal

abbrev pub invariant-loop-c : goal.invariant-loop-c
invariant-loop-c l = Cornered (tetra_of (first_three l.axes)) l.offs l.t l.left l.c l.initial.work l.work
