-- `walk::many::blend`: there is room for every corner.
use Rattle.std.proofs.Common.{arith}
use Rattle.walk.proofs.Answers.{corners-fit, blocks-fit}
use Rattle.walk.proofs.many.blend.Goals as goal

pub roomy-requires-clause-room : goal.roomy-requires-clause-room
roomy-requires-clause-room c = (corners-fit 3 _ (omega arith), blocks-fit 3 _ (omega arith))

pub roomy-requires-then-k-le6-clause-room : goal.roomy-requires-then-k-le6-clause-room
roomy-requires-then-k-le6-clause-room c = (corners-fit 6 _ (omega arith), blocks-fit 6 _ (omega arith))
