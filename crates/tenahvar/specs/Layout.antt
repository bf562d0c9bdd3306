-- What a layout through C leaves in the three rows that are lent to it, and its total. Definitions only.
use Rattle.std.specs.Prelude.{ℕ, ◌≡◌, List, Float}
use Rattle.outcome.specs.Outcome.{on_done}
use Rattle.layout.specs.Layout.{laid_of, entries}

-- what `tenahvar_layout` owes: its number r, and the three rows afterwards, s, f and c, which were s₀, f₀ and c₀
pub record LaidOut (sizes : List ℕ) (n m : ℕ) (s₀ f₀ : List ℕ) (c₀ : List Float) (r : ℕ) (s f : List ℕ) (c : List Float) : Type 0 where
  pub number : r ≡ (laid_of sizes n m).refusal
  pub strides : s ≡ on_done (laid_of sizes n m).refusal (laid_of sizes n m).lut.grid_strides s₀
  pub filling : f ≡ on_done (laid_of sizes n m).refusal (laid_of sizes n m).lut.grid_filling_size f₀
  pub scale : c ≡ on_done (laid_of sizes n m).refusal (laid_of sizes n m).lut.grid_scale c₀

-- what `tenahvar_total` owes: its number r, and the total afterwards, `now`, which was `old`
pub record Totalled (sizes : List ℕ) (n m old r now : ℕ) : Type 0 where
  pub number : r ≡ (laid_of sizes n m).refusal
  pub total : now ≡ on_done (laid_of sizes n m).refusal (entries (laid_of sizes n m).lut) old
