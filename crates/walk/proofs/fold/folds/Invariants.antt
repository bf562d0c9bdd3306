-- `walk::fold::folds`: after i turns the weights to come fold what is left to the same.
use Rattle.walk.proofs.Halving.{Folds}
use Rattle.walk.proofs.fold.folds.Given as goal

abbrev pub invariant-loop-i : goal.invariant-loop-i
invariant-loop-i l = Folds l.axes l.first l.k l.initial.work l.work l.half l.i
