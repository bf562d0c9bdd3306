-- Document 02, E9: a table file, blocks of 512 bytes. An entry is its 32 bits, so that a NaN's payload counts. Definitions only.
use Rattle.std.specs.Prelude.{ℕ, zero, suc, ◌+◌, ◌-◌, ◌*◌, ◌/◌, ◌%◌, ◌^◌, cond, List, ◌∷◌, length, take, nat_lt, slice_index}
use Rattle.lists.specs.Lists.{tabulate}
use Rattle.lists.specs.Bytes.{big_endian}
use Rattle.layout.specs.declared.MultidimensionalLut.{MultidimensionalLut}
use Rattle.layout.specs.Layout.{entries}

-- the word of the four bytes from a place on, the first counting most. A byte that is missing counts as 0
unfoldable pub word_at : List ℕ → ℕ → ℕ
word_at bytes at = big_endian (tabulate 4 (λ i. slice_index bytes (at + i)))

-- byte i of a word, 0 to 3, the first counting most
unfoldable pub byte_of : ℕ → ℕ → ℕ
byte_of w i = w / 256 ^ (3 - i) % 256

-- f 0 + f 1 + .., k terms in all
unfoldable pub sum_to : (ℕ → ℕ) → ℕ → ℕ
sum_to f zero = 0
sum_to f (suc k) = sum_to f k + f k

-- the check of a block whose words are these: the sum of the first 127, modulo 2 ^ 32
unfoldable pub check_of : (ℕ → ℕ) → ℕ
check_of words = sum_to words 127 % 4_294_967_296

-- the words of block b before its check: its number, then its contents
unfoldable pub front : ℕ → (ℕ → ℕ) → ℕ → ℕ
front b contents zero = b
front b contents (suc j) = contents j

-- word j of block b, 0 to 127, and byte k, 0 to 511
unfoldable pub block_word : ℕ → (ℕ → ℕ) → ℕ → ℕ
block_word b contents j = cond (nat_lt j 127) (front b contents j) (check_of (front b contents))

unfoldable pub block_byte : ℕ → (ℕ → ℕ) → ℕ → ℕ
block_byte b contents k = byte_of (block_word b contents (k / 4)) (k % 4)

-- how many blocks hold t entries, 126 in each, and the file's bytes with block 0
unfoldable pub blocks_for : ℕ → ℕ
blocks_for t = (t + 125) / 126

unfoldable pub file_length : ℕ → ℕ
file_length t = 512 * (1 + blocks_for t)

-- the contents of a block, word by word: in block 0 the bytes `head`, then zeros; in each later one 126 entries, the last filled up
-- with zeros
unfoldable pub contents_of : List ℕ → List ℕ → ℕ → ℕ → ℕ
contents_of head bits zero j = word_at head (4 * j)
contents_of head bits (suc b) j = slice_index bits (126 * b + j)

-- byte p of the file stands in block p / 512
unfoldable pub file_byte : List ℕ → List ℕ → ℕ → ℕ
file_byte head bits p = block_byte (p / 512) (contents_of head bits (p / 512)) (p % 512)

-- THE FILE of sixteen sizes (unused ones 0), n and m inks, and the entries' bits: block 0 begins with n, m and the sizes, a byte each
unfoldable pub file_of : List ℕ → ℕ → ℕ → List ℕ → List ℕ
file_of sizes n m bits = tabulate (file_length (length bits)) (file_byte (n ∷ m ∷ sizes) bits)

-- the file of a record and the first total entries of a table
abbrev pub table_file : MultidimensionalLut → List ℕ → List ℕ
table_file lut bits = file_of lut.grid_sizes lut.input_inks lut.output_inks (take (entries lut) bits)
