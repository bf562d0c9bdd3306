-- Document 02, E9, of a layout's sizes and counts, as C asks: it has no record. An entry is its bits there too. Definitions only.
use Rattle.std.specs.Prelude.{◌≡◌, ℕ, List, length, slice_index}
use Rattle.outcome.specs.Outcome.{or_else, on_done}
use Rattle.lists.specs.Buffer.{left}
use Rattle.layout.specs.declared.MultidimensionalLut.{MultidimensionalLut}
use Rattle.layout.specs.Layout.{laid_of, entries}
use Rattle.flash.specs.File.{file_length, table_file}
use Rattle.flash.specs.Refusals.{layout_in, total_in, head_refusal, read_refusal, lent_refusal}
use Rattle.flash.specs.Read.{entry_in}

-- what asking for a file's length owes: its number r, and the length afterwards, `now`, which was `old`
pub record FileMeasured (sizes : List ℕ) (n m old r now : ℕ) : Type 0 where
  pub number : r ≡ (laid_of sizes n m).refusal
  pub bytes : now ≡ on_done (laid_of sizes n m).refusal (file_length (entries (laid_of sizes n m).lut)) old

-- 1, 2, 3, 5, then 6, 8
abbrev pub filed_number : List ℕ → ℕ → ℕ → ℕ → ℕ → ℕ
filed_number sizes n m table room = or_else (laid_of sizes n m).refusal (lent_refusal (entries (laid_of sizes n m).lut) table room)

-- what `write_by_sizes` owes: its number r, and the bytes afterwards, `now`, which were `old`
pub record TableFiled (sizes : List ℕ) (n m : ℕ) (bits old : List ℕ) (r : ℕ) (now : List ℕ) : Type 0 where
  pub number : r ≡ filed_number sizes n m (length bits) (length old)
  pub bytes : now ≡ left r (λ p. slice_index (table_file (laid_of sizes n m).lut bits) p) (length (table_file (laid_of sizes n m).lut bits)) old

-- the sizes and counts that a call with the number r was lent, s, n and m afterwards, which were s₀, n₀ and m₀: on 0 a record's
pub record Told (r : ℕ) (lut : MultidimensionalLut) (s₀ : List ℕ) (n₀ m₀ : ℕ) (s : List ℕ) (n m : ℕ) : Type 0 where
  pub sizes : s ≡ on_done r lut.grid_sizes s₀
  pub inks : n ≡ on_done r lut.input_inks n₀
  pub outputs : m ≡ on_done r lut.output_inks m₀

-- what asking for a file's layout owes: its number r, and the sizes and counts
pub record FileTold (file s₀ : List ℕ) (n₀ m₀ r : ℕ) (s : List ℕ) (n m : ℕ) : Type 0 where
  pub number : r ≡ head_refusal file
  pub told : Told (head_refusal file) (layout_in file).lut s₀ n₀ m₀ s n m

-- what reading owes: its number r, the sizes and counts, and the buffer afterwards, t, which was t₀
pub record TableTaken (file s₀ : List ℕ) (n₀ m₀ : ℕ) (t₀ : List ℕ) (r : ℕ) (s : List ℕ) (n m : ℕ) (t : List ℕ) : Type 0 where
  pub number : r ≡ read_refusal file (length t₀)
  pub told : Told (read_refusal file (length t₀)) (layout_in file).lut s₀ n₀ m₀ s n m
  pub table : t ≡ left (read_refusal file (length t₀)) (entry_in file) (total_in file) t₀
