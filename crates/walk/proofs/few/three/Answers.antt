-- `walk::few::three`: one block, or output by output.
use Rattle.std.proofs.Common.{rules}
use Rattle.walk.proofs.Answers.{block-gives}
use Rattle.walk.proofs.few.three.Goals as goal

pub returns-then-not-one_block : goal.returns-then-not-one_block
returns-then-not-one_block c = record { room = c.each.auto.out; answers = λ o h. let e = c.each.ensures o h in search rules }

pub returns : goal.returns
returns c = block-gives _ _ _ _ (c.one_block.ensures c.if-not-one_block.false).0 c.give.ensures c.tetra4.ensures
