-- Document 02, E9: what the reader and the writer refuse, in their order. Definitions only.
use Rattle.std.specs.Prelude.{ℕ, zero, suc, ◌+◌, ◌-◌, ◌*◌, min, Bool, cond, not, List, length, drop, ◌==◌, nat_eq, nat_lt, slice_index}
use Rattle.outcome.specs.Outcome.{or_else}
use Rattle.lists.specs.Lists.{tabulate, every}
use Rattle.lists.specs.Bytes.{first_sixteen}
use Rattle.layout.specs.declared.MultidimensionalLut.{MultidimensionalLut}
use Rattle.layout.specs.Layout.{Laid, laid_of, entries}
use Rattle.flash.specs.File.{word_at, check_of, blocks_for, file_length}

-- `count` bytes from a place on are all 0
unfoldable pub zeros : List ℕ → ℕ → ℕ → Bool
zeros file from count = every (nat_eq 0) (tabulate count (λ i. slice_index file (from + i)))

-- the block at a place: 18 its check, 19 its number, 20 its filling, from byte `used` of the block up to its check
unfoldable pub block_refusal : List ℕ → ℕ → ℕ → ℕ → ℕ
block_refusal file at number used =
    cond (not (check_of (λ j. word_at file (at + 4 * j)) == word_at file (at + 508))) 18
    (cond (not (word_at file at == number)) 19
    (cond (not (zeros file (at + used) (508 - used))) 20
    0))

-- block 0 has n, m and sixteen sizes after its number: a layout is asked with them, and has a total
abbrev pub inks_in : List ℕ → ℕ
inks_in file = slice_index file 4

abbrev pub outputs_in : List ℕ → ℕ
outputs_in file = slice_index file 5

abbrev pub sizes_in : List ℕ → List ℕ
sizes_in file = first_sixteen (drop 6 file)

abbrev pub layout_in : List ℕ → Laid
layout_in file = laid_of (sizes_in file) (inks_in file) (outputs_in file)

abbrev pub total_in : List ℕ → ℕ
total_in file = entries (layout_in file).lut

-- the bytes in use of block 0: the sizes after the first n are filling too, all with n 0, none with n of 16 and more
unfoldable pub head_used : ℕ → ℕ
head_used n = 6 + min n 16

-- the bytes in use of a later block, where `rest` entries are left at its start
unfoldable pub body_used : ℕ → ℕ
body_used rest = 4 + 4 * min 126 rest

-- block 0 by length, check, number, filling; then the layout: 1, 2, 3, 5
unfoldable pub head_refusal : List ℕ → ℕ
head_refusal file =
    cond (nat_lt (length file) 512) 17
    (or_else (block_refusal file 0 0 (head_used (inks_in file)))
    (layout_in file).refusal)

-- the first k blocks after block 0, in turn
unfoldable pub body_refusal : List ℕ → ℕ → ℕ → ℕ
body_refusal file t zero = 0
body_refusal file t (suc k) = or_else (body_refusal file t k) (block_refusal file (512 * suc k) (suc k) (body_used (t - 126 * k)))

-- of a file with t entries: the whole length, the blocks after block 0, the places of the entry buffer
unfoldable pub rest_refusal : List ℕ → ℕ → ℕ → ℕ
rest_refusal file t room =
    cond (not (length file == file_length t)) 17
    (or_else (body_refusal file t (blocks_for t))
    (cond (nat_lt room t) 8
    0))

-- a reader's refusals, where the entry buffer has so many places
unfoldable pub read_refusal : List ℕ → ℕ → ℕ
read_refusal file room = or_else (head_refusal file) (rest_refusal file (total_in file) room)

-- what a writer refuses by lengths alone: 6 a table shorter than the total, 8 a byte buffer shorter than the file
unfoldable pub lent_refusal : ℕ → ℕ → ℕ → ℕ
lent_refusal t table room =
    cond (nat_lt table t) 6
    (cond (nat_lt room (file_length t)) 8
    0)

-- a writer's refusals: 9 not a layout's record, then those
unfoldable pub write_refusal : Bool → MultidimensionalLut → ℕ → ℕ → ℕ
write_refusal laid lut table room =
    cond (not laid) 9
    (lent_refusal (entries lut) table room)
