-- The inks that are kept, and the count of reads, for the contracts of private functions alone. Definitions only.
use Rattle.std.specs.Prelude.{ℕ, ◌-◌, Bool, cond, List, [], ◌∷◌, ◌++◌, Float}
use Rattle.cell.specs.declared.Cell.{Cell}
use Rattle.lookup.specs.Lookup.{never, idle}
use Rattle.lookup.specs.Table.{cells}
use Rattle.lookup.specs.Idle.{reads, weights_of}
use Rattle.walk.specs.declared.Axis.{Axis}
use Rattle.walk.specs.Steps.{steps_at}

-- the weights to be skipped, where skipping is asked for
abbrev pub skip_of : Bool → Float → Bool
skip_of skipping = cond skipping idle never

-- of the further inks, last ink first, those whose weight is not skipped
abbrev pub kept : (Float → Bool) → List Cell → List Cell
kept skip [] = []
kept skip (h ∷ hs) = cond (skip h.w) (kept skip hs) (h ∷ kept skip hs)

-- of n inks in arrays, the first three and those that are kept of the others
abbrev pub kept_at : (Float → Bool) → List Axis → ℕ → List Cell
kept_at skip axes n = kept skip (steps_at axes 3 (n - 3)) ++ steps_at axes 0 3

-- the reads in a table of the sizes gs, last ink first
abbrev pub reads_in : (Float → Bool) → List ℕ → List Float → ℕ
reads_in skip gs xs = reads skip (weights_of (cells gs xs))
