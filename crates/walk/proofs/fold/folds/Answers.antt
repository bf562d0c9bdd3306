-- `walk::fold::folds`: the next ink.
use Rattle.walk.proofs.Halving.{folds-more}
use Rattle.walk.proofs.fold.folds.Goals as goal

pub loop-i-preserved : goal.loop-i-preserved
loop-i-preserved c = folds-more _ _ _ _ _ _ _ c.loop-i.invariant c.loop-i-test.true _ c.halve.ensures
