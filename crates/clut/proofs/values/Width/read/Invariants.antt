-- So many entries are written.
use Rattle.std.proofs.Common.{◌≡◌, ◌*◌}
use Rattle.lists.specs.Buffer.{written}
use Rattle.clut.specs.Units.{entry_at}
use Rattle.clut.specs.Widths.{bytes_of}
use Rattle.clut.proofs.values.Width.read.Given as goal

abbrev pub invariant-loop-four : goal.invariant-loop-four
invariant-loop-four l = l.entries ≡ written (entry_at (bytes_of l.self) l.bytes) (4 * l.four) l.fn.entries

abbrev pub invariant-loop-e : goal.invariant-loop-e
invariant-loop-e l = l.entries ≡ written (entry_at (bytes_of l.self) l.bytes) l.e l.fn.entries
