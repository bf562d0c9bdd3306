-- A file written block by block, and its entries copied block by block: `file-first`, `file-next`, `copy-next`. Assumes nothing.
use Rattle.std.proofs.Common.{◌≡◌, ℕ, ◌+◌, ◌-◌, ◌*◌, ◌/◌, ◌%◌, ◌<◌, ◌≤◌, min, List, length, get_or, take, drop, sym, refl, ap, ◌∙◌, le_refl, add-one, arith, length-take, length-drop}
use borrow.Rule.Slice.PartMut.{put_mid}
use native.Mathlib.Decide.{dec_lt}
use lib.ListN.{get_or-eq_default}
use Rattle.lists.specs.Lists.{tabulate}
use Rattle.lists.specs.Buffer.{written, written_from}
use Rattle.lists.proofs.Lists.{length-tabulate, get_or-tabulate}
use Rattle.lists.proofs.Buffer.{length-written, written_at, written_on}
use Rattle.flash.specs.File.{word_at, block_byte, blocks_for, file_length, contents_of, file_byte}
use Rattle.flash.specs.Read.{entry_in}
use Rattle.flash.proofs.Fours.{word-zero}
use Rattle.flash.proofs.Parts.{part_written}
use Rattle.flash.proofs.BlockWords.{byte-same}

pub file-long : (t : ℕ) → file_length t ≡ 512 * (1 + blocks_for t)
unfolding file_length
file-long t = refl

-- another block holds what is left of t entries after k blocks
pub file-more : (t k : ℕ) → 126 * k < t → 512 * (k + 1) + 512 ≤ file_length t
unfolding file_length blocks_for
file-more t k h = omega arith

pub file-whole : (t k : ℕ) → t ≤ 126 * k → 126 * k ≤ t + 125 → 512 * (k + 1) ≡ file_length t
unfolding file_length blocks_for
file-whole t k past few = omega arith

block_of : (b i : ℕ) → i < 512 → (512 * b + i) / 512 ≡ b
block_of b i h = omega arith

place_of : (b i : ℕ) → i < 512 → (512 * b + i) % 512 ≡ i
place_of b i h = omega arith

-- a word past the last byte is 0
pub word-past : (bytes : List ℕ) (at : ℕ) → length bytes ≤ at → word_at bytes at ≡ 0
word-past bytes at h = word-zero bytes at (λ i l. get_or-eq_default bytes 0 (omega arith))

module _ (head bits : List ℕ) where
  pub file-block : (b i : ℕ) → i < 512 → file_byte head bits (512 * b + i) ≡ block_byte b (contents_of head bits b) i
  unfolding file_byte
  file-block b i h = λ k. block_byte (block_of b i h k) (contents_of head bits (block_of b i h k)) (place_of b i h k)

  contents-next : (k j : ℕ) → get_or bits (126 * k + j) 0 ≡ contents_of head bits (k + 1) j
  unfolding contents_of
  contents-next k j = rw (add-one k)

  -- one block more
  block_more : (b : ℕ) (contents : ℕ → ℕ) (old file new : List ℕ) → ((j : ℕ) → j < 126 → contents j ≡ contents_of head bits b j)
      → file ≡ written (file_byte head bits) (512 * b) old → new ≡ written_from (512 * b) (block_byte b contents) 512 file
      → new ≡ written (file_byte head bits) (512 * b + 512) old
  block_more b contents old file new same before is =
      is
      ∙ ap (written_from (512 * b) (block_byte b contents) 512) before
      ∙ written_on (block_byte b contents) (file_byte head bits) (512 * b) 512 old (λ i h. byte-same b contents (contents_of head bits b) same i h ∙ sym (file-block b i h))

  more : (k : ℕ) → 512 * (k + 1) + 512 ≡ 512 * (k + 1 + 1)
  more k = omega arith

  pub file-next : (k : ℕ) (part old file new : List ℕ) → ((j : ℕ) → j < 126 → get_or part j 0 ≡ get_or bits (126 * k + j) 0)
      → file ≡ written (file_byte head bits) (512 * (k + 1)) old → new ≡ written_from (512 * (k + 1)) (block_byte (k + 1) (λ j. get_or part j 0)) 512 file
      → new ≡ written (file_byte head bits) (512 * (k + 1 + 1)) old
  file-next k part old file new same before is =
      block_more (k + 1) (λ j. get_or part j 0) old file new (λ j h. same j h ∙ contents-next k j) before is
      ∙ ap (λ (p : ℕ). written (file_byte head bits) p old) (more k)

  head-word : (words : List ℕ) → words ≡ tabulate 5 (λ j. word_at head (4 * j)) → length head ≡ 18 → (j : ℕ) → j < 126 → get_or words j 0 ≡ contents_of head bits 0 j
  unfolding contents_of
  head-word words are long j h =
      let word : ℕ → ℕ = λ k. word_at head (4 * k) in
      ap (λ (l : List ℕ). get_or l j 0) are
      ∙ elim (dec_lt j 5) [
        | yes low ↦ get_or-tabulate 5 word j 0 low
        | no high ↦ get_or-eq_default (tabulate 5 word) 0 (omega (arith, length-tabulate 5 word)) ∙ sym (word-past head (4 * j) (omega arith))
      ]

  pub file-first : (words old new : List ℕ) → words ≡ tabulate 5 (λ j. word_at head (4 * j)) → length head ≡ 18
      → new ≡ written_from 0 (block_byte 0 (λ j. get_or words j 0)) 512 old → new ≡ written (file_byte head bits) 512 old
  unfolding written
  file-first words old new are long is = block_more 0 (λ j. get_or words j 0) old old new (head-word words are long) refl is

-- ---- the entries

in_block : (k i : ℕ) → i < 126 → (126 * k + i) / 126 ≡ k
in_block k i h = omega arith

in_place : (k i : ℕ) → i < 126 → (126 * k + i) % 126 ≡ i
in_place k i h = omega arith

turned : (k : ℕ) → 512 * (1 + k) ≡ 512 * (k + 1)
turned k = omega arith

pub entry_at : (file : List ℕ) (k i : ℕ) → i < 126 → entry_in file (126 * k + i) ≡ word_at file (512 * (k + 1) + 4 + 4 * i)
unfolding entry_in
entry_at file k i h = (λ z. word_at file (512 * (1 + in_block k i h z) + 4 + 4 * in_place k i h z)) ∙ ap (λ (n : ℕ). word_at file (n + 4 + 4 * i)) (turned k)

start : (k total : ℕ) → 126 * k < total → min (126 * k) total ≡ 126 * k
start k total h = omega arith

end : (k total : ℕ) → 126 * k < total → 126 * k + min 126 (total - 126 * k) ≡ min (126 * (k + 1)) total
end k total h = omega arith

pub copy-next : (file old : List ℕ) (k total n : ℕ) (entries part : List ℕ) → 126 * k < total → total ≤ length old → n ≡ min 126 (total - 126 * k)
    → entries ≡ written (entry_in file) (min (126 * k) total) old
    → part ≡ written (λ j. word_at file (512 * (k + 1) + 4 + 4 * j)) (length (take n (drop (126 * k) entries))) (take n (drop (126 * k) entries))
    → put_mid (126 * k) n entries part ≡ written (entry_in file) (min (126 * (k + 1)) total) old
copy-next file old k total n entries part h fits much before is =
    let word : ℕ → ℕ = λ j. word_at file (512 * (k + 1) + 4 + 4 * j) in
    let lent : List ℕ = take n (drop (126 * k) entries) in
    let whole : length entries ≡ length old = ap length before ∙ length-written (entry_in file) (min (126 * k) total) old in
    let long : length lent ≡ n = omega (arith, length-take n (drop (126 * k) entries), length-drop (126 * k) entries) in
    part_written word (126 * k) n n entries part refl (omega arith) (ap length is ∙ length-written word (length lent) lent ∙ long)
    (λ i l. ap (λ (p : List ℕ). get_or p i 0) is ∙ written_at word (length lent) lent i 0 (omega arith) (le_refl _))
    ∙ ap (written_from (126 * k) word n) (before ∙ ap (λ (m : ℕ). written (entry_in file) m old) (start k total h))
    ∙ written_on word (entry_in file) (126 * k) n old (λ i l. sym (entry_at file k i (omega arith)))
    ∙ ap (λ (m : ℕ). written (entry_in file) m old) (ap (λ (m : ℕ). 126 * k + m) much ∙ end k total h)

pub copy-end : (total count : ℕ) → count ≡ blocks_for total → min (126 * count) total ≡ total
unfolding blocks_for
copy-end total count is = omega arith

pub copy-none : (total : ℕ) → min (126 * 0) total ≡ 0
copy-none total = omega arith
