-- The first e entries are copied.
use Rattle.std.proofs.Common.{◌≡◌, ◌+◌, ◌*◌}
use Rattle.lists.specs.Buffer.{written}
use Rattle.flash.specs.File.{word_at}
use Rattle.flash.proofs.blocks.copy_block.Given as goal

abbrev pub invariant-loop-e : goal.invariant-loop-e
invariant-loop-e l = l.bits ≡ written (λ e. word_at l.file (l.at + 4 * e)) l.e l.fn.bits
