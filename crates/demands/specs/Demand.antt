-- Demand 3: for every accepted layout, every table whose entries are from 0 to 1 and all accepted inputs, with zeros of both signs counting as equal. It is said of
-- any rule that gives the answer of a layout, a table and inputs at an output. Definitions only.
use Rattle.std.specs.Prelude.{ℕ, ◌-◌, ◌≤◌, ◌<◌, ◌≡◌, false, List, reverse, Float, length, get_or}
use Rattle.std.specs.Float.{nan}
use Rattle.std.specs.Float.Ieee.{is_nan}
use Rattle.lists.specs.Lists.{some}
use Rattle.binary32.specs.Same.{Same}
use Rattle.binary32.specs.Range.{Share}
use Rattle.cell.specs.Rule.{line, product_of}
use Rattle.layout.specs.declared.MultidimensionalLut.{MultidimensionalLut}
use Rattle.layout.specs.Layout.{IsLayout, entries}
use Rattle.lookup.specs.Table.{output}
use Rattle.grid_slab.specs.Slab.{without, fewer, SlabCut}

-- the inks j of n that demand 3 speaks of: the fourth and those above it
abbrev pub Cuttable : ℕ → ℕ → Type 0
Cuttable j n = (4 ≤ j) × (j ≤ n)

-- the inputs that a lookup accepts: as many as there are inks, and no NaN
abbrev pub AcceptedInputs : MultidimensionalLut → List Float → Type 0
AcceptedInputs lut xs = (length xs ≡ lut.input_inks) × (some is_nan xs ≡ false)

-- the first n entries of a table are from 0 to 1
abbrev pub Shares : List Float → ℕ → Type 0
Shares table n = (e : ℕ) → e < n → Share (get_or table e nan)

abbrev pub Answer : Type 0
Answer = MultidimensionalLut → List Float → List Float → ℕ → Float

-- ink i, counted from 0, of the inputs falls on line k of its own lines: the rounded product decides
abbrev pub OnLine : MultidimensionalLut → List Float → ℕ → ℕ → Type 0
OnLine lut xs i k = product_of (get_or xs i nan) (get_or lut.grid_sizes i 0) ≡ line k

-- in one table: where all inks fall on grid lines, listed first ink first, each answer is the entry stored at that node
abbrev pub NodesKept : Answer → MultidimensionalLut → List Float → Type 0
NodesKept answer lut table = (xs : List Float) → AcceptedInputs lut xs → (lines : List ℕ)
    → length lines ≡ lut.input_inks → ((i : ℕ) → i < lut.input_inks → OnLine lut xs i (get_or lines i 0))
    → (o : ℕ) → o < lut.output_inks → Same (answer lut table xs o) (output lut table o (reverse lines))

-- in one table: an ink j, counted from 1, that may be cut and falls on grid line k can be left out. The answer is that with one ink fewer, in what `cut_slab`
-- wrote to a buffer
abbrev pub LinesCut : Answer → MultidimensionalLut → List Float → Type 0
LinesCut answer lut table = (xs : List Float) → AcceptedInputs lut xs → (j k : ℕ)
    → Cuttable j lut.input_inks → OnLine lut xs (j - 1) k
    → (old slab : List Float) → SlabCut lut table j k old 0 slab
    → (o : ℕ) → o < lut.output_inks → Same (answer lut table xs o) (answer (fewer lut j) slab (without (j - 1) xs) o)

-- for every accepted layout and every table whose entries are from 0 to 1
abbrev pub AtANode : Answer → Type 0
AtANode answer = (lut : MultidimensionalLut) → IsLayout lut → (table : List Float) → Shares table (entries lut) → NodesKept answer lut table

abbrev pub OnALine : Answer → Type 0
OnALine answer = (lut : MultidimensionalLut) → IsLayout lut → (table : List Float) → Shares table (entries lut) → LinesCut answer lut table
