-- `walk::lanes::give`: four lanes at once, or lane by lane.
use Rattle.std.proofs.Common.{refl, arith}
use Rattle.lists.specs.Buffer.{written_from}
use Rattle.walk.specs.Blocks.{lane}
use Rattle.walk.proofs.Blocks.{given-block, given-next}
use Rattle.walk.proofs.lanes.give.Goals as goal

pub returns-then-out-o-ge4 : goal.returns-then-out-o-ge4
returns-then-out-o-ge4 c = given-block _ _ 4 _ _ c.put.ensures (omega arith) (λ k h less. h)

pub loop-i-init : goal.loop-i-init
unfolding written_from
loop-i-init c = refl

pub loop-i-preserved : goal.loop-i-preserved
loop-i-preserved c = given-next (lane c.args.f) _ _ _ _ c.loop-i.invariant

pub returns : goal.returns
returns c = given-block (lane c.args.f) _ c.loop-i.i _ _ c.loop-i.invariant (omega arith) (λ k h less. omega arith)
