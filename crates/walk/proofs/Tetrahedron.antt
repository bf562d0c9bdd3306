-- The plan by steps: within reach, the answer of three inks, four outputs at once. Assumes nothing.
use Prim.Native.Nat.{ℕ, zero, suc, ◌+◌, ◌≤◌, ◌<◌}
use native.Mathlib.Omega.{arith}
use native.Mathlib.Nat.{zero-add}
use mathlib.Core.Path.{◌≡◌, refl, ap, sym, fun_ext, ◌∙◌}
use mathlib.Core.Bool.{Bool, true, false, not, cond}
use mathlib.Core.List.{List, [], ◌∷◌}
use lib.Ieee.{Float, le}
use Rattle.binary32.specs.Blend.{rise, terms, six}
use Rattle.binary32.specs.Range.{Below}
use Rattle.lookup.specs.Lookup.{node, lookup_with}
use Rattle.lookup.specs.Places.{within, answer}
use Rattle.walk.proofs.Weights.{le-through, le-fails}
use Rattle.walk.specs.declared.Four.{Four}
use Rattle.walk.specs.Blocks.{at, Holds}
use Rattle.walk.specs.Steps.{step_cell, corner, plan_for, tetra_of, Near}

-- ---- what stands in the plan

node-step : (d : ℕ) (w : Float) (b : Bool) → cond b d 0 ≡ node (step_cell d w) b
node-step d w true = refl
node-step d w false = refl

within_step : (b : Bool) (d : ℕ) → cond b d 0 ≤ d
within_step true d = omega arith
within_step false d = omega arith

module _ (dx dy dz : ℕ) (rx ry rz : Float) where
  corner-near : (i j k : Bool) → corner dx dy dz i j k ≤ dx + dy + dz
  corner-near i j k = omega (arith, within_step i dx, within_step j dy, within_step k dz)

  pub near : Near (plan_for dx dy dz rx ry rz)
  near =
      let xy = le ry rx in
      let yz = le rz ry in
      let xz = le rz rx in
      record {
        to-1 = corner-near true (not xy) (not xz);
        from-1 = corner-near false (not xy) (not xz);
        to-2 = corner-near xy true (not yz);
        from-2 = corner-near xy false (not yz);
        to-3 = corner-near xz yz true;
        from-3 = corner-near xz yz false;
      }

-- ---- the six cases, where the tests agree

module _ (to : Bool → Bool → Bool → ℕ) (t : List Float) (o : ℕ) (x y z : Float) where
  abbrev entry : Bool → Bool → Bool → Float
  entry i j k = at t (to i j k + o)

  six-cases : (xy yz xz : Bool) → (xy ≡ true → yz ≡ true → xz ≡ true) → (xy ≡ false → yz ≡ false → xz ≡ false)
      → terms (entry false false false)
      (rise (entry false (not xy) (not xz)) (entry true (not xy) (not xz)))
      (rise (entry xy false (not yz)) (entry xy true (not yz)))
      (rise (entry xz yz false) (entry xz yz true)) x y z
      ≡ six entry x y z xy yz xz
  six-cases true true true p q = refl
  six-cases true true false p q = let never : false ≡ true = p refl refl in absurd (let z : ◌≡◌ {A = ℕ} 0 1 = cc in omega arith)
  six-cases true false true p q = refl
  six-cases true false false p q = refl
  six-cases false true true p q = refl
  six-cases false true false p q = refl
  six-cases false false true p q = let never : true ≡ false = q refl refl in absurd (let z : ◌≡◌ {A = ℕ} 0 1 = cc in omega arith)
  six-cases false false false p q = refl

module _ (dx dy dz : ℕ) (rx ry rz : Float) (X : Below 1 rx) (Y : Below 1 ry) (Z : Below 1 rz) where
  -- the node at i, j, k stands at the sum of the three steps
  stands : (t : List Float) (o : ℕ)
      → ◌≡◌ {A = Bool → Bool → Bool → Float} (λ i j k. at t (corner dx dy dz i j k + o)) (λ i j k. within t o (node (step_cell dz rz) k ∷ node (step_cell dy ry) j ∷ node (step_cell dx rx) i ∷ []))
  stands t o = fun_ext λ i. fun_ext λ j. fun_ext λ k. ap (λ (n : ℕ). at t (n + o)) (let a = node-step dx rx i in let b = node-step dy ry j in let c = node-step dz rz k in omega (arith, a, b, c))

  pub plan-answers : (t : List Float) (o : ℕ) → tetra_of (plan_for dx dy dz rx ry rz) o t ≡ answer t (step_cell dz rz ∷ step_cell dy ry ∷ step_cell dx rx ∷ []) o
  unfolding lookup_with
  plan-answers t o =
      let xy = le ry rx in
      let yz = le rz ry in
      let xz = le rz rx in
      let p = plan_for dx dy dz rx ry rz in
      ap (λ (n : ℕ). terms (at t n) (rise (at t (p.q1 + o)) (at t (p.p1 + o))) (rise (at t (p.q2 + o)) (at t (p.p2 + o))) (rise (at t (p.q3 + o)) (at t (p.p3 + o))) rx ry rz) (sym (zero-add o))
      ∙ six-cases (corner dx dy dz) t o rx ry rz xy yz xz (λ h k. le-through rz ry Z Y rx X k h) (λ h k. le-fails rx ry rz X Y Z h k)
      ∙ ap (λ (c : Bool → Bool → Bool → Float). six c rx ry rz xy yz xz) (stands t o)

-- ---- four outputs

-- the outputs that are left, lane by lane
pub four-left : (v : ℕ → Float) (left : ℕ) (f : Four) → (0 < left → f.a ≡ v 0) → (1 < left → f.b ≡ v 1) → (2 < left → f.c ≡ v 2) → (3 < left → f.d ≡ v 3) → Holds v left f
four-left v left f a b c d zero h less = a less
four-left v left f a b c d (suc zero) h less = b less
four-left v left f a b c d (suc (suc zero)) h less = c less
four-left v left f a b c d (suc (suc (suc zero))) h less = d less
four-left v left f a b c d (suc (suc (suc (suc o)))) h less = absurd (omega arith)
