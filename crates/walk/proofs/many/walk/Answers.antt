-- `walk::many::walk`: block by block.
use Rattle.std.proofs.Common.{arith}
use Rattle.walk.specs.Blocks.{lane}
use Rattle.walk.proofs.Answers.{inks-reach, inks-given, upto-more, upto_all, upto-last}
use Rattle.walk.proofs.many.walk.Goals as goal

pub distances-offs-requires-clause-k_bound_2 : goal.distances-offs-requires-clause-k_bound_2
distances-offs-requires-clause-k_bound_2 c = omega (arith, inks-reach c.args.axes.now c.args.k)

pub loop-o-preserved : goal.loop-o-preserved
loop-o-preserved c = upto-more _ _ _ _ _ (lane c.inner-f.result) c.loop-o.invariant c.loop-o-test.true c.give.ensures (inks-given c.args.axes.now c.requires.k_bound.2 _ _ _ _ _ c.inner-f.ensures.holds)

pub returns : goal.returns
returns c = upto_all _ _ _ _ c.loop-o.invariant c.loop-o-test.false

pub returns-2 : goal.returns-2
returns-2 c = upto-last _ _ _ _ _ (lane c.inner-f.result) c.loop-o.invariant c.loop-o-test.true c.give.ensures (inks-given c.args.axes.now c.requires.k_bound.2 _ _ _ _ _ c.inner-f.ensures.holds) (omega arith)
