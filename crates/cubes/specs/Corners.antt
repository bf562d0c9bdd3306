-- How the code keeps the eight corners, and which blend a method is. Definitions only.
use Rattle.std.specs.Prelude.{ℕ, ◌+◌, ◌≤◌, ◌<◌, true, false}
use Rattle.cell.specs.declared.Cell.{Cell}
use Rattle.cubes.specs.declared.Method.{Method}
use Rattle.cubes.specs.declared.Method.TheVariants.{Pyramidal, Prismatic, Trilinear}
use Rattle.cubes.specs.declared.corners.Corners.{Corners}
use Rattle.cubes.specs.Blends.{Eight, Blend, pyramid, prism, trilinear}

-- what stands at a corner
abbrev pub corner_at : {A : Type 0} → Corners A → Eight A
corner_at c false false false = c.low
corner_at c true false false = c.r
corner_at c false true false = c.g
corner_at c false false true = c.b
corner_at c true true false = c.rg
corner_at c true false true = c.rb
corner_at c false true true = c.gb
corner_at c true true true = c.rgb

-- P holds of what stands at each corner
abbrev pub Each : {A : Type 0} → (A → Type 0) → Corners A → Type 0
Each P c = P c.low × P c.r × P c.g × P c.b × P c.rg × P c.rb × P c.gb × P c.rgb

-- the m entries at each start stand in a table of len entries
abbrev pub Reach : Corners ℕ → ℕ → ℕ → Type 0
Reach starts m len = Each (λ start. start + m ≤ len) starts

-- the nodes of three cells are among the lines 0 to g - 1, and m is small
pub record Inside (cx cy cz : Cell) (g m : ℕ) : Type 0 where
  pub x : cx.x < g
  pub xₙ : cx.x_n < g
  pub y : cy.x < g
  pub yₙ : cy.x_n < g
  pub z : cz.x < g
  pub zₙ : cz.x_n < g
  pub few : m ≤ 4

abbrev pub blend_of : Method → Blend
blend_of Pyramidal = pyramid
blend_of Prismatic = prism
blend_of Trilinear = trilinear
