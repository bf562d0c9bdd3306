-- One ink and two: where their nodes stand, and that what the code reads is the answer. Assumes nothing.
use Prim.Native.Nat.{ℕ, ◌+◌, ◌*◌, ◌≤◌, ◌<◌, max}
use native.Mathlib.Nat.{add-zero}
use native.Mathlib.Omega.{arith}
use mathlib.Core.Path.{◌≡◌}
use mathlib.Core.Bool.{Bool, true, false}
use mathlib.Core.List.{List, [], ◌∷◌}
use lib.Ieee.{Float, nan}
use lib.ListN.{get_or}
use mir.Syntax.{w64}
use mir.Val.{Fits}
use Rattle.binary32.specs.Blend.{along}
use Rattle.cell.specs.declared.Cell.{Cell}
use Rattle.lookup.specs.Lookup.{node, lookup_with}
use Rattle.lookup.specs.Places.{reach, answer}
use Rattle.lookup.proofs.Room.{Room}

-- place i of a slice of n floats, and its distance in bytes
pub record Place (i n : ℕ) : Type 0 where
  pub fits : Fits w64 i
  pub bytes : Fits w64 (i * 4)
  pub inside : i < n

pub place_at : (i n : ℕ) → Room n → i < n → Place i n
place_at i n room h = record { fits = omega arith; bytes = omega arith; inside = h }

-- ---- the nodes of cells, as distances

-- the further node of a cell
abbrev pub far : Cell → ℕ
far c = max c.x c.x_n

pub within-far : (c : Cell) (b : Bool) → node c b ≤ far c
within-far c true = omega arith
within-far c false = omega arith

module _ (c d : Cell) (m o n : ℕ) (less : o < m) (room : Room n) where
  pub one_place : reach (c ∷ []) + m ≤ n → (i : Bool) → Place (node c i + o) n
  one_place enough i = place_at (node c i + o) n room (omega (arith, within-far c i))

  pub two-place : reach (d ∷ c ∷ []) + m ≤ n → (j i : Bool) → Place (node d j + node c i + o) n
  two-place enough j i = place_at (node d j + node c i + o) n room (omega (arith, within-far c i, within-far d j))

-- ---- what the code reads

module _ (part : List Float) (o : ℕ) where
  pub one-ink : (c : Cell) → along (get_or part (c.x + o) nan) (get_or part (c.x_n + o) nan) c.w ≡ answer part (c ∷ []) o
  unfolding lookup_with
  one-ink c = simp add-zero

  pub two-inks : (c d : Cell) →
      along
      (along (get_or part (d.x + c.x + o) nan) (get_or part (d.x + c.x_n + o) nan) c.w)
      (along (get_or part (d.x_n + c.x + o) nan) (get_or part (d.x_n + c.x_n + o) nan) c.w)
      d.w
      ≡ answer part (d ∷ c ∷ []) o
  unfolding lookup_with
  two-inks c d = simp add-zero
