-- Inks above three: what they give is the answer of all of them. Assumes nothing.
use Prim.Native.Nat.{ℕ, ◌+◌, ◌≤◌}
use native.Mathlib.Omega.{arith}
use native.Mathlib.Nat.{zero-add}
use mathlib.Core.Path.{◌≡◌, refl, ap, ap₂, sym, ◌∙◌}
use mathlib.Core.List.{List, [], ◌∷◌, ◌++◌}
use lib.Ieee.{Float}
use lib.ListN.{length, drop}
use Rattle.binary32.specs.Blend.{lerp}
use Rattle.cell.specs.declared.Cell.{Cell}
use Rattle.lookup.specs.Lookup.{Grid, never, lookup}
use Rattle.lookup.specs.Places.{within, reach, answer}
use Rattle.lookup.proofs.More.{lookup-more}
use Rattle.lookup.proofs.Part.{drop-within}
use Rattle.walk.specs.Walk.{above}

-- hs above three cells
module _ (cx cy cz : Cell) where
  abbrev over : List Cell → List Cell
  over hs = hs ++ (cz ∷ cy ∷ cx ∷ [])

  three-or-more : (hs : List Cell) → 3 ≤ length (over hs)
  three-or-more [] = omega arith
  three-or-more (h ∷ hs) = omega (arith, three-or-more hs)

  module _ (o : ℕ) (three : List Float → Float) (is : (part : List Float) → three part ≡ answer part (over []) o) where
    pub above-answer : (hs : List Cell) (table : List Float) → above three hs table ≡ answer table (over hs) o
    above-answer [] table = is table
    above-answer (h ∷ hs) table =
        ap₂ (λ (a b : Float). lerp a b h.w)
        (above-answer hs (drop h.x table) ∙ ap (λ (f : Grid). lookup f (over hs)) (drop-within table h.x o))
        (above-answer hs (drop h.x_n table) ∙ ap (λ (f : Grid). lookup f (over hs)) (drop-within table h.x_n o))
        ∙ sym (lookup-more never (within table o) h (over hs) (three-or-more hs))

-- what more inks add to the reach
pub reach-over : (hs cs : List Cell) → reach (hs ++ cs) ≡ reach hs + reach cs
reach-over [] cs = sym (zero-add _)
reach-over (h ∷ hs) cs = omega (arith, reach-over hs cs)

-- inks above inks
pub above-above : (f : List Float → Float) (bs hs : List Cell) (part : List Float) → above (above f hs) bs part ≡ above f (bs ++ hs) part
above-above f [] hs part = refl
above-above f (b ∷ bs) hs part = ap₂ (λ (x y : Float). lerp x y b.w) (above-above f bs hs (drop b.x part)) (above-above f bs hs (drop b.x_n part))
