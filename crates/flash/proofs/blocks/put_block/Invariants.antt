-- The number and j words are written and summed.
use Rattle.std.proofs.Common.{◌≡◌, ◌+◌, ◌*◌, ◌%◌, get_or}
use Rattle.lists.specs.Buffer.{written_from}
use Rattle.flash.specs.File.{sum_to, front, block_byte}
use Rattle.flash.proofs.blocks.put_block.Given as goal

abbrev pub invariant-loop-j : goal.invariant-loop-j
invariant-loop-j l = record {
  put : l.file ≡ written_from l.at (block_byte l.number (λ k. get_or l.words k 0)) (4 * (l.j + 1)) l.fn.file;
  summed : l.sum ≡ sum_to (front l.number (λ k. get_or l.words k 0)) (l.j + 1) % 4_294_967_296;
}
