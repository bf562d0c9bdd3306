-- `walk::lanes::put`: four stores.
use Rattle.walk.proofs.Blocks.{stored}
use Rattle.walk.proofs.lanes.put.Goals as goal

pub returns : goal.returns
returns c = stored _ _ _
