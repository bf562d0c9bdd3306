-- `walk::Call::cells`: the lowest corner so far stands within the table.
use Rattle.std.proofs.Common.{◌≡◌, arith, length}
use Rattle.walk.proofs.Reading.{ink-ordered}
use Rattle.walk.proofs.Stepping.{stepping-more, base-within, stepped-all}
use Rattle.walk.proofs.Call.cells.Goals as goal

pub overflow_add-at : goal.overflow_add-at
overflow_add-at c = omega (arith, base-within c.requires c.loop-i.invariant c.loop-i-test.true _ c.in_ok-c.ensures.1)

pub overflow_sub-axes : goal.overflow_sub-axes
overflow_sub-axes c = ink-ordered c.requires _ c.loop-i-test.true _ c.in_ok-c.ensures.1

pub loop-i-preserved : goal.loop-i-preserved
loop-i-preserved c = stepping-more c.requires c.loop-i.invariant c.loop-i-test.true c.in_ok-c.c c.in_ok-c.ensures.1 c.in_ok-c.ensures.0

pub returns-clause-lowest : goal.returns-clause-lowest
returns-clause-lowest c =
    let all : c.loop-i.i ≡ length c.args.self.now.inputs.now = omega arith in
    stepped-all c.requires c.loop-i.invariant all
