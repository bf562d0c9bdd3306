-- What cutting out a slab through C owes: it lays out, then cuts. Definitions only.
use Rattle.std.specs.Prelude.{ℕ, ◌≡◌, true, List, Float, length, get_or}
use Rattle.std.specs.Float.{nan}
use Rattle.outcome.specs.Outcome.{or_else}
use Rattle.lists.specs.Buffer.{left}
use Rattle.layout.specs.Layout.{laid_of, entries}
use Rattle.grid_slab.specs.Slab.{fewer, slab, refusal}

-- 1, 2, 3, 5, then 6, 11, 12, 8
abbrev pub slab_number : List ℕ → ℕ → ℕ → ℕ → ℕ → ℕ → ℕ → ℕ
slab_number sizes n m table j k room = or_else (laid_of sizes n m).refusal (refusal true (laid_of sizes n m).lut table j k room)

-- what `tenahvar_cut_slab` owes: its number r, and the buffer afterwards, `now`, which was `old`
pub record SlabTaken (sizes : List ℕ) (n m : ℕ) (table : List Float) (j k : ℕ) (old : List Float) (r : ℕ) (now : List Float) : Type 0 where
  pub number : r ≡ slab_number sizes n m (length table) j k (length old)
  pub entries : now ≡ left (slab_number sizes n m (length table) j k (length old)) (λ e. get_or (slab (laid_of sizes n m).lut table j k) e nan) (entries (fewer (laid_of sizes n m).lut j)) old
