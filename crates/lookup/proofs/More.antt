-- The definition by one ink more than three or more; up to three inks nothing is skipped. Assumes nothing.
use Prim.Native.Nat.{◌≤◌}
use native.Mathlib.Omega.{arith}
use mathlib.Core.Path.{◌≡◌, refl}
use mathlib.Core.Bool.{Bool, cond}
use mathlib.Core.List.{List, [], ◌∷◌}
use lib.Ieee.{Float}
use lib.ListN.{length}
use Rattle.binary32.specs.Blend.{lerp}
use Rattle.cell.specs.declared.Cell.{Cell}
use Rattle.lookup.specs.Lookup.{Grid, part, lookup_with, lookup}

module _ (skip : Float → Bool) (f : Grid) where
  -- four inks and more: the lower of two lookups with one ink fewer, or between the two
  pub lookup-more : (h : Cell) (cs : List Cell) → 3 ≤ length cs
      → lookup_with skip f (h ∷ cs)
      ≡ cond (skip h.w) (lookup_with skip (part f h.x) cs) (lerp (lookup_with skip (part f h.x) cs) (lookup_with skip (part f h.x_n) cs) h.w)
  unfolding lookup_with
  lookup-more h [] few = absurd (omega arith)
  lookup-more h (c ∷ []) few = absurd (omega arith)
  lookup-more h (d ∷ c ∷ []) few = absurd (omega arith)
  lookup-more h (e ∷ d ∷ c ∷ cs) few = refl

  pub lookup-few : (cs : List Cell) → length cs ≤ 3 → lookup_with skip f cs ≡ lookup f cs
  unfolding lookup_with
  lookup-few [] few = refl
  lookup-few (c ∷ []) few = refl
  lookup-few (d ∷ c ∷ []) few = refl
  lookup-few (e ∷ d ∷ c ∷ []) few = refl
  lookup-few (h ∷ e ∷ d ∷ c ∷ cs) few = absurd (omega arith)
