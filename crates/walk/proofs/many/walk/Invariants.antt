-- `walk::many::walk`: the answers before output o are given.
use Rattle.std.proofs.Common.{◌+◌}
use Rattle.lookup.specs.Places.{answer}
use Rattle.walk.specs.Steps.{steps_at}
use Rattle.walk.proofs.Answers.{Upto}
use Rattle.walk.proofs.many.walk.Given as goal

abbrev pub invariant-loop-o : goal.invariant-loop-o
invariant-loop-o l = Upto (answer l.t (steps_at l.axes 0 (l.k + 3))) l.o l.initial.out l.out
