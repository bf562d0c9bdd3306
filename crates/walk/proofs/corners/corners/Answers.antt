-- `walk::corners::corners`: the next corner's block.
use Rattle.std.proofs.Common.{arith}
use Rattle.walk.proofs.Cornering.{cornered-more}
use Rattle.walk.proofs.corners.corners.Goals as goal

pub loop-c-preserved : goal.loop-c-preserved
loop-c-preserved c = cornered-more _ _ _ _ _ _ _ c.loop-c.invariant _ _ (omega arith) c.block.ensures c.put.ensures
