-- What the cube methods through C owe: that of the methods, on the cells of three axes. Definitions only.
use Rattle.std.specs.Prelude.{ℕ, List, Float, get_or}
use Rattle.std.specs.Float.{nan}
use Rattle.cell.specs.declared.Cell.{Cell}
use Rattle.cubes.specs.declared.Inks.{Inks}
use Rattle.cubes.specs.Blends.{Blend}
use Rattle.cubes.specs.Cube.{Blended}

-- the cell on axis i, from the lower nodes, upper nodes and weights
abbrev pub cell_at : List ℕ → List ℕ → List Float → ℕ → Cell
cell_at x n w i = record { x = get_or x i 0; x_n = get_or n i 0; w = get_or w i nan }

-- the cells of the axes, red first
abbrev pub cells_at : List ℕ → List ℕ → List Float → Inks Cell
cells_at x n w = record { red = cell_at x n w 0; green = cell_at x n w 1; blue = cell_at x n w 2 }

-- what a method that blends by `blend` owes: its number r, and the answer buffer afterwards, `now`, which was `old`
abbrev pub BlendedAt : Blend → List ℕ → List ℕ → List Float → ℕ → ℕ → List Float → List Float → ℕ → List Float → Type 0
BlendedAt blend x n w g m cube old r now = Blended blend (cell_at x n w 0) (cell_at x n w 1) (cell_at x n w 2) g m cube old r now
