-- A lookup in a table: the cells of the inputs, the answer at each output, what is refused, and what a call leaves in the answer buffer.
-- Definitions only.
use Rattle.std.specs.Prelude.{ℕ, ◌+◌, ◌*◌, ◌≡◌, Bool, true, cond, not, List, [], ◌∷◌, ltb, eqb, Float, length, get_or}
use Rattle.std.specs.Float.{nan}
use Rattle.std.specs.Float.Ieee.{is_nan}
use Rattle.outcome.specs.Outcome.{Decides, or_else}
use Rattle.lists.specs.Lists.{some}
use Rattle.lists.specs.Buffer.{left}
use Rattle.cell.specs.declared.Cell.{Cell}
use Rattle.cell.specs.Rule.{ink_cell}
use Rattle.layout.specs.declared.MultidimensionalLut.{MultidimensionalLut}
use Rattle.layout.specs.Order.{index}
use Rattle.layout.specs.Layout.{laid_of, IsLayout, ink_sizes, entries}
use Rattle.lookup.specs.Lookup.{Grid, lookup_with, never}

-- output o of each node: a node's m outputs stand together, in ICC.1's order of the nodes
abbrev pub output : MultidimensionalLut → List Float → ℕ → Grid
output lut table o ks = get_or table (index (ink_sizes lut) ks * lut.output_inks + o) nan

-- the cells of the inputs xs, numbers all, last ink first, as the sizes are: the head of the sizes belongs to the ink of the rest's length
unfoldable pub cells : List ℕ → List Float → List Cell
cells [] xs = []
cells (g ∷ gs) xs = ink_cell (length gs) g (get_or xs (length gs) nan) ∷ cells gs xs

-- the answer at output o, with the weights that are to be skipped, and without
unfoldable pub answer_with : (Float → Bool) → MultidimensionalLut → List Float → List Float → ℕ → Float
answer_with skip lut table xs o = lookup_with skip (output lut table o) (cells (ink_sizes lut) xs)

abbrev pub answer_at : MultidimensionalLut → List Float → List Float → ℕ → Float
answer_at lut table xs o = answer_with never lut table xs o

-- document 02, E8: 16 where some input is NaN
abbrev pub nan_refusal : List Float → ℕ
nan_refusal inputs = cond (some is_nan inputs) 16 0

-- 9 not a layout's record, 6 a short table, 7 the number of inputs, 8 a short answer buffer, 16 a NaN input: the first that applies, and
-- 0 where none does
unfoldable pub refusal : Bool → MultidimensionalLut → ℕ → List Float → ℕ → ℕ
refusal laid lut table inputs room =
    cond (not laid) 9
    (cond (ltb table (entries lut)) 6
    (cond (not (eqb (length inputs) lut.input_inks)) 7
    (cond (ltb room lut.output_inks) 8
    (nan_refusal inputs))))

-- what a lookup owes: its number r, and the answer buffer afterwards, `now`, which was `old`
pub record LookedWith (skip : Float → Bool) (lut : MultidimensionalLut) (table inputs old : List Float) (r : ℕ) (now : List Float) : Type 0 where
  pub laid : Bool
  pub decides : Decides laid (IsLayout lut)
  pub number : r ≡ refusal laid lut (length table) inputs (length old)
  pub entries : now ≡ left r (answer_with skip lut table inputs) lut.output_inks old

abbrev pub Looked : MultidimensionalLut → List Float → List Float → List Float → ℕ → List Float → Type 0
Looked lut table inputs old r now = LookedWith never lut table inputs old r now

-- laid out by sizes and counts: 1, 2, 3, 5, then 6, 7, 8, 16. An accepted layout's record is a layout's, `true`: no 9 is given
abbrev pub refusal_by_sizes : List ℕ → ℕ → ℕ → ℕ → List Float → ℕ → ℕ
refusal_by_sizes sizes n m table inputs room = or_else (laid_of sizes n m).refusal (refusal true (laid_of sizes n m).lut table inputs room)

-- what a lookup by sizes owes
pub record LookedBySizesWith (skip : Float → Bool) (sizes : List ℕ) (n m : ℕ) (table inputs old : List Float) (r : ℕ) (now : List Float) : Type 0 where
  pub number : r ≡ refusal_by_sizes sizes n m (length table) inputs (length old)
  pub entries : now ≡ left (refusal_by_sizes sizes n m (length table) inputs (length old)) (answer_with skip (laid_of sizes n m).lut table inputs) m old

abbrev pub LookedBySizes : List ℕ → ℕ → ℕ → List Float → List Float → List Float → ℕ → List Float → Type 0
LookedBySizes sizes n m table inputs old r now = LookedBySizesWith never sizes n m table inputs old r now
