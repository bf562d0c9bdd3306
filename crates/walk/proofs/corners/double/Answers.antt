-- `walk::corners::double`: the distances that are read have not been set.
use Rattle.std.proofs.Common.{refl, arith}
use Rattle.lists.specs.Buffer.{written_from}
use Rattle.walk.proofs.Steps.{doubled-at, doubled-next}
use Rattle.walk.proofs.corners.double.Goals as goal

pub loop-c-init : goal.loop-c-init
unfolding written_from
loop-c-init c = refl

pub overflow_add-offs : goal.overflow_add-offs
overflow_add-offs c =
    omega (arith, doubled-at c.args.offs.now c.args.count c.args.d c.loop-c.offs c.loop-c.c c.loop-c.invariant c.loop-c-test.true, c.requires.by_index c.loop-c.c c.loop-c-test.true)

pub loop-c-preserved : goal.loop-c-preserved
loop-c-preserved c = doubled-next _ _ _ c.loop-c.offs c.loop-c.c c.loop-c.invariant c.loop-c-test.true
