-- Block 0 and as many blocks after it as there were parts are written, and the rest is left.
use Rattle.std.proofs.Common.{◌≡◌, ◌+◌, ◌*◌, ◌≤◌, ◌∷◌, length, drop}
use Rattle.std.specs.Iterator.Adapters.{enumerate_source, enumerate_count}
use Rattle.std.specs.Slice.Iter.{chunks_size, chunks_rest}
use Rattle.lists.specs.Buffer.{written}
use Rattle.flash.specs.File.{file_byte}
use Rattle.flash.proofs.blocks.put_all.Given as goal

abbrev pub invariant-loop-k : goal.invariant-loop-k
invariant-loop-k l = record {
  size : chunks_size (enumerate_source l.k-iterator) ≡ 126;
  rest : chunks_rest (enumerate_source l.k-iterator) ≡ drop (126 * enumerate_count l.k-iterator) l.bits;
  few : 126 * enumerate_count l.k-iterator ≤ length l.bits + 125;
  put : l.file ≡ written (file_byte (l.head.n ∷ l.head.m ∷ l.head.sizes) l.bits) (512 * (enumerate_count l.k-iterator + 1)) l.fn.file;
}
