-- `walk::many::outer`: the next corner's block, and the fold of all.
use Rattle.std.proofs.Common.{◌≡◌, length, arith}
use Rattle.walk.proofs.Cornering.{cornered-more}
use Rattle.walk.proofs.Answers.{folded-block}
use Rattle.walk.proofs.many.outer.Goals as goal

pub loop-c-preserved : goal.loop-c-preserved
loop-c-preserved c = cornered-more _ _ _ _ _ _ _ c.loop-c.invariant _ _ (omega arith) c.inner-f.ensures.holds c.put.ensures

pub returns-clause-holds : goal.returns-clause-holds
returns-clause-holds c =
    let all : c.loop-c.c ≡ length c.args.tops.now = omega arith in
    folded-block _ c.args.axes.now _ _ _ c.requires.distant_tops _ _ _ _ _ (rw all at c.loop-c.invariant) c.folds.ensures _ c.load.ensures
