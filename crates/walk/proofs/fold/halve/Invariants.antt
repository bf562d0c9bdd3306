-- `walk::fold::halve`: each turn sets one block, and reads two that no turn has set.
use Rattle.std.proofs.Common.{◌≡◌, ◌*◌}
use Rattle.lists.specs.Buffer.{written}
use Rattle.walk.specs.Blocks.{at}
use Rattle.walk.specs.Walk.{halved}
use Rattle.walk.proofs.fold.halve.Given as goal

abbrev pub invariant-loop-c : goal.invariant-loop-c
invariant-loop-c l = l.work ≡ written (halved l.t (l.half * 4) (at l.initial.work)) (l.c * 4) l.initial.work
