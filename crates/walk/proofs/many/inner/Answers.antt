-- `walk::many::inner`: each corner is in the part, and the fold of all.
use Rattle.std.proofs.Common.{arith}
use Rattle.walk.proofs.Answers.{inks-reach, corner-inside, folded-block}
use Rattle.walk.proofs.many.inner.Goals as goal

pub corners-requires-clause-step_bound : goal.corners-requires-clause-step_bound
corners-requires-clause-step_bound c = omega (arith, inks-reach c.args.axes.now c.args.k)

pub corners-requires-clause-by_index : goal.corners-requires-clause-by_index
corners-requires-clause-by_index c = corner-inside _ _ _ c.requires.distant _ _ c.requires.left_in_bounds

pub returns-clause-holds : goal.returns-clause-holds
returns-clause-holds c = folded-block _ c.args.axes.now _ _ _ c.requires.distant _ _ _ _ _ c.corners.ensures c.folds.ensures _ c.load.ensures
