-- `walk::corners::double`: each turn sets one distance.
use Rattle.std.proofs.Common.{◌≡◌, ◌+◌, get_or}
use Rattle.lists.specs.Buffer.{written_from}
use Rattle.walk.proofs.corners.double.Given as goal

abbrev pub invariant-loop-c : goal.invariant-loop-c
invariant-loop-c l = l.offs ≡ written_from l.count (λ e. get_or l.initial.offs e 0 + l.d) l.c l.initial.offs
