-- Document 02, E9, of the calls. `writes-same`: of a file that `read_table` accepted, `write_table` writes the same bytes; `reads_same`: of what `write_table` left,
-- `read_table` gives the record and the table's bits again. `file-blocks`: the file's length; `head-of-read`: `file_layout` and `read_table` give one record;
-- `read-unwritten`, `write-unwritten`: a refused call writes nothing. Assumes nothing.
use Rattle.std.proofs.Common.{◌≡◌, ℕ, ◌+◌, ◌*◌, ◌/◌, ◌<◌, ◌≤◌, T, List, length, get_or, take, sym, refl, ap, ◌∙◌, subst, arith, length-take-le, get_or-take, ext_get_or, le-ltb}
use mathlib.Core.Path.{subst⁻¹}
use lib.Pow.{are_bytes}
use Rattle.outcome.specs.Outcome.{on_done}
use Rattle.lists.specs.Buffer.{written, left}
use Rattle.lists.proofs.Buffer.{length-written, written_at, unwritten}
use Rattle.lists.proofs.Lists.{bytes-at}
use Rattle.layout.specs.declared.MultidimensionalLut.{MultidimensionalLut}
use Rattle.layout.specs.Layout.{Laid, refused_by, IsLayout, entries}
use Rattle.flash.specs.File.{file_length, blocks_for, table_file}
use Rattle.flash.specs.Refusals.{layout_in, total_in, read_refusal, lent_refusal, write_refusal}
use Rattle.flash.specs.Read.{FileLaid, entry_in, TableRead}
use Rattle.flash.specs.Written.{TableWritten}
use Rattle.flash.proofs.Files.{file-long}
use Rattle.flash.proofs.Reading.{file-is-layout, head-none, head-layout, head-number, read_none, read_number}
use Rattle.flash.proofs.Bodies.{rest-none}
use Rattle.flash.proofs.Writing.{file-length, write-none}
use Rattle.flash.proofs.WritesBack.{writes-back}
use Rattle.flash.proofs.ReadsBack.{reads-back}

-- the file's length: block 0 and the blocks that the total needs, 126 entries in each
pub file-blocks : (lut : MultidimensionalLut) (bits : List ℕ) → entries lut ≤ length bits → length (table_file lut bits) ≡ 512 * (1 + (entries lut + 125) / 126)
unfolding blocks_for
file-blocks lut bits enough = file-length _ _ _ (take (entries lut) bits) ∙ ap file_length (length-take-le (entries lut) bits enough) ∙ file-long (entries lut)

-- a list written from its start stands there
start_is : (xs old : List ℕ) → length xs ≤ length old → take (length xs) (written (λ p. get_or xs p 0) (length xs) old) ≡ xs
start_is xs old h =
    let f : ℕ → ℕ = λ p. get_or xs p 0 in
    let now = written f (length xs) old in
    ext_get_or 0 (take (length xs) now) xs (length-take-le (length xs) now (omega (arith, length-written f (length xs) old))) (λ i l.
    let low : i < length xs = omega (arith, length-take-le (length xs) now (omega (arith, length-written f (length xs) old))) in
    get_or-take (length xs) now i 0 low ∙ written_at f (length xs) old i 0 low h)

-- ---- a refused call writes nothing

pub read-unwritten : (file old : List ℕ) (r : Laid) (now : List ℕ) → TableRead file old r now → (r.refusal ≡ 0 → ⊥) → now ≡ old
read-unwritten file old r now read refused =
    read.table ∙ sym (unwritten (read_refusal file (length old)) (entry_in file) (total_in file) old refused (read_number file old r now read))

pub write-unwritten : (lut : MultidimensionalLut) (bits old : List ℕ) (r : ℕ) (now : List ℕ) → TableWritten lut bits old r now → (r ≡ 0 → ⊥) → now ≡ old
write-unwritten lut bits old r now wrote refused = wrote.bytes ∙ sym (unwritten r (λ p. get_or (table_file lut bits) p 0) (length (table_file lut bits)) old refused refl)

-- ---- read, then written

module _ (file old : List ℕ) (r : Laid) (now : List ℕ) (read : TableRead file old r now) (done : r.refusal ≡ 0) where
  none : read_refusal file (length old) ≡ 0
  none = sym (read_number file old r now read) ∙ done

  pub read_is : r ≡ layout_in file
  read_is = read.answer ∙ ap (λ (k : ℕ). on_done k (layout_in file) (refused_by k)) none

  table_is : now ≡ written (entry_in file) (total_in file) old
  table_is = read.table ∙ ap (λ (k : ℕ). left k (entry_in file) (total_in file) old) none

  room : total_in file ≤ length old
  room = (rest-none file (total_in file) (length old) (read_none file (length old) none).1).2

  pub room-read : total_in file ≤ length now
  room-read = omega (arith, room, ap length table_is ∙ length-written (entry_in file) (total_in file) old)

  -- each entry read is the file's
  pub entry_read : (e : ℕ) → e < total_in file → get_or now e 0 ≡ entry_in file e
  entry_read e h = ap (λ (l : List ℕ). get_or l e 0) table_is ∙ written_at (entry_in file) (total_in file) old e 0 h room

  -- `file_layout` answers the same record
  pub head-of-read : (q : Laid) → FileLaid file q → q ≡ r
  head-of-read q laid = head-layout file q laid (head-number file q laid ∙ (read_none file (length old) none).0) ∙ sym read_is

  module _ (bytes : T (are_bytes file)) where
    -- the file of what was read is the file
    pub file-again : table_file r.lut now ≡ file
    file-again =
        ap (λ (l : Laid). table_file l.lut now) read_is
        ∙ writes-back file (bytes-at file bytes) (length old) none now room-read entry_read

    pub read-is-layout : IsLayout r.lut
    read-is-layout =
        subst⁻¹ (λ (l : Laid). IsLayout l.lut) read_is (file-is-layout file (bytes-at file bytes) (head-none file (read_none file (length old) none).0).2)

    enough : entries r.lut ≤ length now
    enough = omega (arith, room-read, ap (λ (l : Laid). entries l.lut) read_is)

    long : length file ≡ file_length (entries r.lut)
    long =
        (rest-none file (total_in file) (length old) (read_none file (length old) none).1).0
        ∙ ap (λ (l : Laid). file_length (entries l.lut)) (sym read_is)

    -- EVERY FILE ACCEPTED WRITES BACK TO THE SAME BYTES
    pub writes-same : (buffer : List ℕ) → length file ≤ length buffer → (k : ℕ) (after : List ℕ) → TableWritten r.lut now buffer k after
        → (k ≡ 0) × (take (length file) after ≡ file)
    unfolding write_refusal lent_refusal
    writes-same buffer wide k after wrote =
        let zero : k ≡ 0 =
        wrote.number
        ∙ simp (wrote.decides.found read-is-layout, le-ltb (length now) (entries r.lut) enough, le-ltb (length buffer) (file_length (entries r.lut)) (omega (arith, long))) in (
          zero,
          (ap (take (length file)) (wrote.bytes ∙ (λ i. left (zero i) (λ p. get_or (file-again i) p 0) (length (file-again i)) buffer)) ∙ start_is file buffer wide),
        )

-- ---- written, then read

module _ (lut : MultidimensionalLut) (bits old now : List ℕ) (words : (i : ℕ) → get_or bits i 0 < 4_294_967_296) (wrote : TableWritten lut bits old 0 now) where
  passed-all : IsLayout lut × (entries lut ≤ length bits) × (file_length (entries lut) ≤ length old)
  passed-all = write-none lut bits old now wrote

  file-long-is : length (table_file lut bits) ≡ file_length (entries lut)
  file-long-is =
      file-length lut.grid_sizes lut.input_inks lut.output_inks (take (entries lut) bits) ∙ ap file_length (length-take-le (entries lut) bits passed-all.1)

  -- the first bytes are the file
  pub file-stands : take (file_length (entries lut)) now ≡ table_file lut bits
  file-stands =
      ap (λ (k : ℕ). take k now) (sym file-long-is)
      ∙ ap (take (length (table_file lut bits))) wrote.bytes
      ∙ start_is (table_file lut bits) old (omega (arith, file-long-is, passed-all.2))

  -- EVERY TABLE WRITTEN READS BACK TO THE SAME BITS
  pub reads_same : (buffer : List ℕ) → entries lut ≤ length buffer → (r : Laid) (after : List ℕ) → TableRead (take (file_length (entries lut)) now) buffer r after
      → (r ≡ record { refusal = 0; lut = lut }) × (take (entries lut) after ≡ take (entries lut) bits)
  reads_same buffer wide r after read =
      let file = table_file lut bits in
      let back = reads-back lut passed-all.0 bits words passed-all.1 in
      let of-file : TableRead file buffer r after = subst (λ (f : List ℕ). TableRead f buffer r after) file-stands read in
      let none : read_refusal file (length buffer) ≡ 0 = back.number (length buffer) ∙ simp (le-ltb (length buffer) (entries lut) wide) in
      let total : total_in file ≡ entries lut = ap (λ (l : Laid). entries l.lut) back.layout in
      let table : after ≡ written (entry_in file) (entries lut) buffer = of-file.table ∙ (λ i. left (none i) (entry_in file) (total i) buffer) in
      let long : entries lut ≤ length after = omega (arith, ap length table ∙ length-written (entry_in file) (entries lut) buffer) in
      let same_length : length (take (entries lut) after) ≡ length (take (entries lut) bits) = length-take-le (entries lut) after long ∙ sym (length-take-le (entries lut) bits passed-all.1) in (
        of-file.answer ∙ ap (λ (k : ℕ). on_done k (layout_in file) (refused_by k)) none ∙ back.layout,
        ext_get_or 0 (take (entries lut) after) (take (entries lut) bits) same_length (λ e h.
            let low : e < entries lut = omega (arith, length-take-le (entries lut) after long) in
            get_or-take (entries lut) after e 0 low
            ∙ ap (λ (l : List ℕ). get_or l e 0) table
            ∙ written_at (entry_in file) (entries lut) buffer e 0 low wide
            ∙ back.same e low
            ∙ sym (get_or-take (entries lut) bits e 0 low)),
      )
