-- What the node reader through C owes: it lays out, then finds the node. Definitions only.
use Rattle.std.specs.Prelude.{ℕ, ◌*◌, ◌≡◌, true, List, reverse, Float, length}
use Rattle.outcome.specs.Outcome.{or_else, on_done}
use Rattle.layout.specs.Order.{index}
use Rattle.layout.specs.Layout.{laid_of, ink_sizes}
use Rattle.nodes.specs.Node.{node_refusal}

-- 1, 2, 3, 5, then 6, 7, 10
abbrev pub node_number : List ℕ → ℕ → ℕ → ℕ → List ℕ → ℕ
node_number sizes n m table coordinates = or_else (laid_of sizes n m).refusal (node_refusal true (laid_of sizes n m).lut table coordinates)

-- what `tenahvar_node` owes: its number r, and the offset afterwards, `now`, which was `old`: the place in the table of the first of the node's m entries.
-- Coordinates come first ink first.
pub record NodeFound (sizes : List ℕ) (n m : ℕ) (table : List Float) (coordinates : List ℕ) (old r now : ℕ) : Type 0 where
  pub number : r ≡ node_number sizes n m (length table) coordinates
  pub offset : now ≡ on_done (node_number sizes n m (length table) coordinates) (index (ink_sizes (laid_of sizes n m).lut) (reverse coordinates) * m) old
