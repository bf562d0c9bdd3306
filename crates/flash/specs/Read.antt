-- Document 02, E9: what reading a table file owes. Definitions only.
use Rattle.std.specs.Prelude.{◌≡◌, ℕ, ◌+◌, ◌*◌, ◌/◌, ◌%◌, List, length, from_bits, slice_index, Float}
use Rattle.std.specs.Float.{binary32}
use Rattle.outcome.specs.Outcome.{on_done}
use Rattle.lists.specs.Lists.{tabulate}
use Rattle.lists.specs.Buffer.{left}
use Rattle.layout.specs.Layout.{Laid, refused_by, IsLayout}
use Rattle.flash.specs.File.{word_at}
use Rattle.flash.specs.Refusals.{layout_in, total_in, head_refusal, read_refusal}

-- what `file_layout` owes: its answer r, the layout that block 0 asks or a refusal with a record of zeros
pub record FileLaid (file : List ℕ) (r : Laid) : Type 0 where
  pub answer : r ≡ on_done (head_refusal file) (layout_in file) (refused_by (head_refusal file))
  -- which follows, since the file is one of bytes
  pub accepted : r.refusal ≡ 0 → IsLayout r.lut

-- the bits of entry e of a file: 126 entries stand in each block after block 0
unfoldable pub entry_in : List ℕ → ℕ → ℕ
entry_in file e = word_at file (512 * (1 + e / 126) + 4 + 4 * (e % 126))

-- what `read_table` owes: its answer r, the layout or a refusal with a record of zeros, and the buffer afterwards, `now`, which was `old`
pub record TableRead (file old : List ℕ) (r : Laid) (now : List ℕ) : Type 0 where
  pub answer : r ≡ on_done (read_refusal file (length old)) (layout_in file) (refused_by (read_refusal file (length old)))
  pub table : now ≡ left (read_refusal file (length old)) (entry_in file) (total_in file) old

-- the table whose entries have these bits: in C it is the same memory. A NaN has no payload here
unfoldable pub floats_of : List ℕ → List Float
floats_of bits = tabulate (length bits) (λ e. from_bits binary32 (slice_index bits e))
