-- Where the corners stand: a corner's node is in the cube, and its m entries are in the table.
-- Assumes nothing.
use Prim.Native.Nat.{ℕ, ◌+◌, ◌*◌, ◌≤◌, ◌<◌}
use mathlib.Core.Path.{◌≡◌}
use mathlib.Core.Bool.{Bool, true, false}
use mathlib.Core.List.{[], ◌∷◌}
use native.Mathlib.Nat.{mul-zero, add-zero, mul-one, mul_comm, add_comm, mul_assoc, le_trans}
use Rattle.cell.specs.declared.Cell.{Cell}
use Rattle.lists.specs.Lists.{product}
use Rattle.layout.specs.Order.{index, Within}
use Rattle.layout.specs.Layout.{total}
use Rattle.layout.proofs.Order.{entries-within}
use Rattle.cubes.specs.declared.corners.Corners.{Corners}
use Rattle.cubes.specs.Cube.{sizes, node, starts}
use Rattle.cubes.specs.Corners.{corner_at, Reach, Inside}

-- the number of a node, as the code works it out
pub node_number : (g x y z : ℕ) → (x * g + y) * g + z ≡ index (sizes g) (z ∷ y ∷ x ∷ [])
unfolding index
node_number g x y z = rw (mul-zero g, add-zero x, mul_comm g x, add_comm y (x * g), mul_comm g (x * g + y)) (add_comm ((x * g + y) * g) z)

-- the entries of the cube, as the code works them out
pub total_is : (g m : ℕ) → g * g * g * m ≡ total (sizes g) m
unfolding product
total_is g m = simp (mul-one, mul_assoc)

node-below : (c : Cell) (g : ℕ) (i : Bool) → c.x < g → c.x_n < g → node c i < g
node-below c g false h l = h
node-below c g true h l = l

-- the entries of each corner are in a table that has those of the cube
module _ (cx cy cz : Cell) (g m len : ℕ) (inside : Inside cx cy cz g m) (long : total (sizes g) m ≤ len) where
  reach-at : (i j k : Bool) → starts cx cy cz g m i j k + m ≤ len
  unfolding Within
  reach-at i j k =
      le_trans (entries-within (sizes g) (node cz k ∷ node cy j ∷ node cx i ∷ []) m (
        node-below cz g k inside.z inside.zₙ,
        (node-below cy g j inside.y inside.yₙ, (node-below cx g i inside.x inside.xₙ, tt)),
      )) long

  pub reach : (p : Corners ℕ) → corner_at p ≡ starts cx cy cz g m → Reach p m len
  reach p is =
      let at : (i j k : Bool) → corner_at p i j k + m ≤ len = λ i j k. rw is (reach-at i j k) in (
        at false false false,
        at true false false,
        at false true false,
        at false false true,
        at true true false,
        at true false true,
        at false true true,
        at true true true,
      )
