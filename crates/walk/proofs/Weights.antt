-- Comparing weights: on numbers from 0 up and below 1 `le` is transitive and total. So of the three tests of a tetrahedron two decide the third where they
-- point the same way. Assumes nothing.
use Prim.Native.Nat.{ℕ, ◌*◌, ◌≤◌, ◌<◌}
use mathlib.Core.Path.{◌≡◌, refl, sym, ◌∙◌}
use mathlib.Core.Bool.{Bool, true, false}
use native.Mathlib.Nat.{mul-le-mul_right, le_of_mul-le-mul_right}
use native.Mathlib.Omega.{arith}
use lib.Dec.{leb}
use lib.Ieee.{Float, le}
use lib.Ieee.Positive.{num, den, den_pos}
use borrow.Author.Tests.{leb-true, leb-false, le-leb}
use Rattle.binary32.specs.Range.{Below}
use Rattle.binary32.proofs.Values.{le_is}
use Rattle.binary32.proofs.Ranges.{below-own}

-- a / c ≤ b / d and b / d ≤ e / f
fractions : (a c b d e f : ℕ) → 0 < d → a * d ≤ b * c → b * f ≤ e * d → a * f ≤ e * c
fractions a c b d e f some h k =
    le_of_mul-le-mul_right {m = a * f} {n = e * c} {k = d} (omega (arith, mul-le-mul_right f h, mul-le-mul_right c k)) some

module _ (x y : Float) (X : Below 1 x) (Y : Below 1 y) where
  as-fractions : le x y ≡ leb (num x * den y) (num y * den x)
  as-fractions = le_is x y (num x) (den x) (num y) (den y) (den_pos x) (den_pos y) (below-own 1 x X).0 (below-own 1 y Y).0

module _ (x y : Float) (X : Below 1 x) (Y : Below 1 y) where
  turned : le x y ≡ false → le y x ≡ true
  turned fails =
      let above = leb-false (num x * den y) (num y * den x) (sym (as-fractions x y X Y) ∙ fails) in
      as-fractions y x Y X ∙ le-leb (num y * den x) (num x * den y) (omega arith)

  module _ (z : Float) (Z : Below 1 z) where
    pub le-through : le x y ≡ true → le y z ≡ true → le x z ≡ true
    le-through h k =
        as-fractions x z X Z
        ∙ le-leb _ _ (fractions (num x) (den x) (num y) (den y) (num z) (den z) (den_pos y) (leb-true _ _ (sym (as-fractions x y X Y) ∙ h)) (leb-true _ _ (sym (as-fractions y z Y Z) ∙ k)))

-- z ≤ x fails where y ≤ x and z ≤ y do
pub le-fails : (x y z : Float) → Below 1 x → Below 1 y → Below 1 z → le y x ≡ false → le z y ≡ false → le z x ≡ false
le-fails x y z X Y Z h k = go (le z x) refl
  where
    go : (b : Bool) → le z x ≡ b → b ≡ false
    go false e = refl
    go true e = sym (le-through z x Z X y Y e (turned y x Y X h)) ∙ k
