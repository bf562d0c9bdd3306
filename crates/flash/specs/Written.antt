-- Document 02, E9: what writing a table file owes. Definitions only.
use Rattle.std.specs.Prelude.{◌≡◌, ℕ, Bool, List, length, take, slice_index}
use Rattle.outcome.specs.Outcome.{Decides}
use Rattle.lists.specs.Buffer.{left}
use Rattle.layout.specs.declared.MultidimensionalLut.{MultidimensionalLut}
use Rattle.layout.specs.Layout.{IsLayout}
use Rattle.flash.specs.File.{file_of, table_file}
use Rattle.flash.specs.Refusals.{lent_refusal, write_refusal}

-- what `write_table` owes: its number r, and the byte buffer afterwards, `now`, which was `old`. On 0 the file stands in its first bytes
pub record TableWritten (lut : MultidimensionalLut) (bits old : List ℕ) (r : ℕ) (now : List ℕ) : Type 0 where
  pub laid : Bool
  pub decides : Decides laid (IsLayout lut)
  pub number : r ≡ write_refusal laid lut (length bits) (length old)
  pub bytes : now ≡ left r (λ p. slice_index (table_file lut bits) p) (length (table_file lut bits)) old

-- the same of sizes, counts and a total that are known to be a layout's, for the contracts of private functions alone
pub record FileWritten (sizes : List ℕ) (n m t : ℕ) (bits old : List ℕ) (r : ℕ) (now : List ℕ) : Type 0 where
  pub number : r ≡ lent_refusal t (length bits) (length old)
  pub bytes : now ≡ left r (λ p. slice_index (file_of sizes n m (take t bits)) p) (length (file_of sizes n m (take t bits))) old
