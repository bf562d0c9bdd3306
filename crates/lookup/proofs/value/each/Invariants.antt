-- After o turns the first o answers are written.
use Rattle.std.proofs.Common.{◌≡◌, reverse}
use Rattle.lists.specs.Buffer.{written}
use Rattle.lookup.specs.Places.{answer}
use Rattle.lookup.proofs.value.each.Given as goal

abbrev pub invariant-loop-o : goal.invariant-loop-o
invariant-loop-o l = l.out ≡ written (answer l.table (reverse l.inks)) l.o l.initial.out
