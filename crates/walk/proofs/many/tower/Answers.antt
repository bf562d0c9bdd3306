-- `walk::many::tower`: block by block.
use Rattle.std.proofs.Common.{arith}
use Rattle.lookup.proofs.Part.{from-length}
use Rattle.walk.specs.Blocks.{lane}
use Rattle.walk.proofs.Answers.{inks-reach, tower-reach, tower-given, upto-more, upto-last, top-inside}
use Rattle.walk.proofs.many.tower.Goals as goal

pub distances-offs-requires-clause-k_bound_2 : goal.distances-offs-requires-clause-k_bound_2
distances-offs-requires-clause-k_bound_2 c = omega (arith, inks-reach c.args.axes.now c.args.e, tower-reach c.args.axes.now c.args.e c.args.j)

pub distances-tops-requires-clause-k_bound_2 : goal.distances-tops-requires-clause-k_bound_2
distances-tops-requires-clause-k_bound_2 c = omega (arith, inks-reach c.args.axes.now c.args.e, tower-reach c.args.axes.now c.args.e c.args.j)

pub outer-f-requires-clause-left_in_bounds : goal.outer-f-requires-clause-left_in_bounds
outer-f-requires-clause-left_in_bounds c =
    top-inside _ _ _ _ c.distances-tops.ensures _ _ (rw from-length (omega arith))

pub loop-o-preserved : goal.loop-o-preserved
loop-o-preserved c = upto-more _ _ _ _ _ (lane c.outer-f.result) c.loop-o.invariant c.loop-o-test.true c.give.ensures (tower-given c.args.axes.now _ _ c.requires.j_bound.2 _ _ _ _ c.outer-f.ensures.holds)

pub returns-2 : goal.returns-2
returns-2 c = upto-last _ _ _ _ _ (lane c.outer-f.result) c.loop-o.invariant c.loop-o-test.true c.give.ensures (tower-given c.args.axes.now _ _ c.requires.j_bound.2 _ _ _ _ c.outer-f.ensures.holds) (omega arith)
