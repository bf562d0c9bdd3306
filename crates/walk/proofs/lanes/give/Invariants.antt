-- `walk::lanes::give`: lane by lane.
use Rattle.std.proofs.Common.{◌≡◌, get_or}
use Rattle.std.specs.Float.{nan}
use Rattle.lists.specs.Buffer.{written_from}
use Rattle.walk.proofs.lanes.give.Given as goal

abbrev pub invariant-loop-i : goal.invariant-loop-i
invariant-loop-i l = l.out ≡ written_from l.o (λ k. get_or l.lanes k nan) l.i l.initial.out
