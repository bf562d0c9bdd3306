-- What an answer says that is none where a test holds, and else a value. `differs-is`: NaN, and nothing else, is not equal to itself.
-- Assumes nothing.
use Rattle.std.proofs.Common.{◌≡◌, ◌*◌, Bool, true, false, cond, not, ◌&&◌, refl, ap, eq-eqb}
use Rattle.std.specs.Prelude.{None, Some}
use lib.Ieee.{Float, nan, inf, fin, up, down, eq, ne, is_nan}

pub differs-is : (x : Float) → ne x x ≡ is_nan x
unfolding ne eq is_nan
differs-is nan = refl
differs-is (inf true) = refl
differs-is (inf false) = refl
differs-is (fin true m e) = ap (λ (b : Bool). not (b && true)) (eq-eqb (m * up e * down e) (m * up e * down e) refl)
differs-is (fin false m e) = ap (λ (b : Bool). not (b && true)) (eq-eqb (m * up e * down e) (m * up e * down e) refl)

module _ {A : Type 0} where
  -- a value: the test does not hold, and it is that value
  pub said_some : (b : Bool) (v w : A) → Some v ≡ cond b None (Some w) → (b ≡ false) × (v ≡ w)
  said_some true v w e = cc
  said_some false v w e = (refl, cc)

  -- none: the test holds
  pub said_none : (b : Bool) (w : A) → None ≡ cond b None (Some w) → b ≡ true
  said_none true w e = refl
  said_none false w e = cc
