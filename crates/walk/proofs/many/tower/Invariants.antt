-- `walk::many::tower`: the answers before output o are given.
use Rattle.std.proofs.Common.{◌+◌}
use Rattle.lookup.specs.Places.{answer}
use Rattle.walk.specs.Steps.{steps_at}
use Rattle.walk.proofs.Answers.{Upto}
use Rattle.walk.proofs.many.tower.Given as goal

abbrev pub invariant-loop-o : goal.invariant-loop-o
invariant-loop-o l = Upto (answer l.t (steps_at l.axes 0 (l.j + (l.e + 3)))) l.o l.initial.out l.out
