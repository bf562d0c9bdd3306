-- `walk::many::outer`: a block more each turn.
use Rattle.walk.specs.Walk.{blended, Cornered}
use Rattle.walk.proofs.many.outer.Given as goal

abbrev pub invariant-loop-c : goal.invariant-loop-c
invariant-loop-c l = Cornered (blended l.axes l.e) l.tops l.t l.left l.c l.initial.high l.high
