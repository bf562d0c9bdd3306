-- What reading a CLUT element through C owes: C callers hold a layout as its sizes and counts. Definitions only.
use Rattle.std.specs.Prelude.{ℕ, ◌≡◌, List, Float, length}
use Rattle.outcome.specs.Outcome.{on_done}
use Rattle.lists.specs.Buffer.{left}
use Rattle.clut.specs.Units.{entry_at}
use Rattle.clut.specs.Clut.{precision_of, data_of, layout_of, total_of, refusal}

-- what `tenahvar_read_clut` owes: its number r, the sizes afterwards, s, which were s₀ and are the record's on 0, and the buffer afterwards, t, which was t₀
pub record ClutTaken (element : List ℕ) (n m : ℕ) (s₀ : List ℕ) (t₀ : List Float) (r : ℕ) (s : List ℕ) (t : List Float) : Type 0 where
  pub number : r ≡ refusal element n m (length t₀)
  pub sizes : s ≡ on_done (refusal element n m (length t₀)) (layout_of element n m).lut.grid_sizes s₀
  pub table : t ≡ left (refusal element n m (length t₀)) (entry_at (precision_of element) (data_of element)) (total_of element n m) t₀
