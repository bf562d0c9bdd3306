-- Document 02, E6: the lookup that at inks four and up visits only the lower part where the weight is 0, and how many nodes it reads.
-- Definitions only.
use Rattle.std.specs.Prelude.{ℕ, suc, ◌+◌, ◌-◌, ◌≡◌, Bool, cond, List, [], ◌∷◌, Float, length, take}
use Rattle.outcome.specs.Outcome.{on_done}
use Rattle.cell.specs.declared.Cell.{Cell}
use Rattle.layout.specs.declared.MultidimensionalLut.{MultidimensionalLut}
use Rattle.layout.specs.Layout.{laid_of, ink_sizes}
use Rattle.lookup.specs.Lookup.{idle}
use Rattle.lookup.specs.Table.{cells, LookedWith, LookedBySizesWith}

-- the nodes that a lookup reads, by the weights of its inks, last ink first: 2 for one ink, 4 for two, 6 for each tetrahedron reached
unfoldable pub reads : (Float → Bool) → List Float → ℕ
reads skip [] = 1
reads skip (u ∷ []) = 2
reads skip (v ∷ u ∷ []) = 4
reads skip (w ∷ v ∷ u ∷ []) = 6
reads skip (t ∷ w ∷ v ∷ u ∷ ws) =
    let lower = reads skip (w ∷ v ∷ u ∷ ws) in
    cond (skip t) lower (lower + lower)

-- the weights of cells
abbrev pub weights_of : List Cell → List Float
weights_of [] = []
weights_of (c ∷ cs) = c.w ∷ weights_of cs

-- the reads of a call, whatever the count of outputs
unfoldable pub reads_at : (Float → Bool) → MultidimensionalLut → List Float → ℕ
reads_at skip lut xs = reads skip (weights_of (cells (ink_sizes lut) xs))

-- what a lookup with skipping owes: what a lookup owes, and the count of its reads, 0 of a refused call
pub record LookedSkipping (lut : MultidimensionalLut) (table inputs old : List Float) (r count : ℕ) (now : List Float) : Type 0 where
  pub looked : LookedWith idle lut table inputs old r now
  pub counted : count ≡ on_done r (reads_at idle lut inputs) 0

-- by sizes and counts
pub record LookedSkippingBySizes (sizes : List ℕ) (n m : ℕ) (table inputs old : List Float) (r count : ℕ) (now : List Float) : Type 0 where
  pub looked : LookedBySizesWith idle sizes n m table inputs old r now
  pub counted : count ≡ on_done r (reads_at idle (laid_of sizes n m).lut inputs) 0

-- ---- the count in closed form

-- of the weights of all inks, last ink first, those from the fourth ink on
abbrev pub fourth_on : List Float → List Float
fourth_on ws = take (length ws - 3) ws

-- how many weights are not skipped
abbrev pub active : (Float → Bool) → List Float → ℕ
active skip [] = 0
active skip (w ∷ ws) = cond (skip w) (active skip ws) (suc (active skip ws))
