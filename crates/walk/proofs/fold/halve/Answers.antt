-- `walk::fold::halve`: the next block.
use Rattle.std.proofs.Common.{refl, rules}
use Rattle.lists.specs.Buffer.{written}
use Rattle.walk.proofs.Halving.{halved-more}
use Rattle.walk.proofs.fold.halve.Goals as goal

pub loop-c-init : goal.loop-c-init
unfolding written
loop-c-init c = refl

pub loop-c-preserved : goal.loop-c-preserved
loop-c-preserved c =
    halved-more _ _ _ c.loop-c.c _ c.loop-c.invariant _ _ c.with.result _ c.load-x.ensures c.load-y.ensures (λ k h. let e = c.with.ensures k h in search rules) c.put.ensures
