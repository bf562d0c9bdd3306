-- `walk::few::each`: the answers before output o are given.
use Rattle.std.proofs.Common.{ℕ, ◌<◌}
use Rattle.walk.specs.Blocks.{at}
use Rattle.walk.proofs.few.each.Given as goal

abbrev pub invariant-loop-o : goal.invariant-loop-o
invariant-loop-o g l = (k : ℕ) → k < l.o → goal.F-post g l.answer k (at l.out k)
