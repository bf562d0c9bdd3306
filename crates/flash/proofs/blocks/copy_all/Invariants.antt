-- The entries of the first k blocks after block 0 are copied.
use Rattle.std.proofs.Common.{◌≡◌, ◌*◌, min}
use Rattle.lists.specs.Buffer.{written}
use Rattle.flash.specs.Read.{entry_in}
use Rattle.flash.proofs.blocks.copy_all.Given as goal

abbrev pub invariant-loop-k : goal.invariant-loop-k
invariant-loop-k l = l.bits ≡ written (entry_in l.file) (min (126 * l.k) l.total) l.fn.bits
