-- What the node reader shows: the stretch of the table that holds a node's m entries. Coordinates come first ink first. Definitions only.
use Rattle.std.specs.Prelude.{ℕ, zero, suc, Result, Ok, Err, ◌*◌, ◌≡◌, Bool, cond}
use Rattle.std.specs.Prelude.{not, List, [], reverse, ltb, eqb, Float, length, take, drop}
use denote.Ref.{Bor}
use Rattle.outcome.specs.declared.Refusal.{Refusal}
use Rattle.outcome.specs.Outcome.{Decides, on_done}
use Rattle.layout.specs.declared.EntryOffset.{EntryOffset}
use Rattle.layout.specs.declared.MultidimensionalLut.{MultidimensionalLut}
use Rattle.layout.specs.Order.{index, in_grid}
use Rattle.layout.specs.Layout.{IsLayout, ink_sizes, entries}

-- 9 not a layout's record, 6 a short table, 7 the number of coordinates, 10 a coordinate past the last line: the first that applies, and
-- 0 where none does
unfoldable pub node_refusal : Bool → MultidimensionalLut → ℕ → List ℕ → ℕ
node_refusal laid lut table coordinates =
    cond (not laid) 9
    (cond (ltb table (entries lut)) 6
    (cond (not (eqb (length coordinates) lut.input_inks)) 7
    (cond (not (in_grid (ink_sizes lut) (reverse coordinates))) 10
    0)))

-- the node's m entries on 0, and nothing on a refusal
unfoldable pub node_entries : ℕ → MultidimensionalLut → List Float → List ℕ → List Float
node_entries zero lut table coordinates = take lut.output_inks (drop (index (ink_sizes lut) (reverse coordinates) * lut.output_inks) table)
node_entries (suc r) lut table coordinates = []

-- what `check_node` owes: its number r
pub record NodeRefused (lut : MultidimensionalLut) (table : List Float) (coordinates : List ℕ) (r : ℕ) : Type 0 where
  pub laid : Bool
  pub decides : Decides laid (IsLayout lut)
  pub number : r ≡ node_refusal laid lut (length table) coordinates

-- what `node_offset` owes: where the first of those entries stands in the table, and 0 on a refusal
pub record NodePlaced (lut : MultidimensionalLut) (table : List Float) (coordinates : List ℕ) (first : ℕ) : Type 0 where
  pub laid : Bool
  pub decides : Decides laid (IsLayout lut)
  pub offset : first ≡ on_done (node_refusal laid lut (length table) coordinates) (index (ink_sizes lut) (reverse coordinates) * lut.output_inks) 0

-- what `node` owes: the entries of the part that it hands back
pub record NodeShown (lut : MultidimensionalLut) (table : List Float) (coordinates : List ℕ) (shown : List Float) : Type 0 where
  pub laid : Bool
  pub decides : Decides laid (IsLayout lut)
  pub entries : shown ≡ node_entries (node_refusal laid lut (length table) coordinates) lut table coordinates

-- what the answers show: an offset, and the entries of a part; of a refusal 0, and an empty part
abbrev pub offset_in : Result EntryOffset Refusal → ℕ
offset_in (Ok first) = first.0
offset_in (Err refusal) = 0

abbrev pub entries_in : Result (Bor (List Float)) Refusal → List Float
entries_in (Ok shown) = shown.now
entries_in (Err refusal) = []
