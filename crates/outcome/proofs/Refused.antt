-- A call that gave r, which is the number k: on a refusal k is the first that applies, and what was lent stays as it was.
-- Assumes nothing.
use Prim.Native.Nat.{ℕ, zero, suc}
use native.Mathlib.Nat.{suc-ne-zero}
use mathlib.Core.Path.{◌≡◌, refl, ap}
use mathlib.Core.Bool.{Bool, true, false, cond}
use Rattle.outcome.specs.Outcome.{or_else, on_done}

pub refused-first : {r : ℕ} (k next : ℕ) → (r ≡ 0 → ⊥) → r ≡ k → r ≡ or_else k next
refused-first zero next refused number = absurd (refused number)
refused-first (suc k) next refused number = number

-- none of two refuses
pub neither : (k next : ℕ) → or_else k next ≡ 0 → (k ≡ 0) × (next ≡ 0)
neither zero next h = (refl, h)
neither (suc k) next h = absurd (suc-ne-zero k h)

-- a test that did not refuse by its number k, where the number in the end is j
pub passed_to : (j : ℕ) (b : Bool) (k r : ℕ) → (k ≡ j → ⊥) → cond b k r ≡ j → (b ≡ false) × (r ≡ j)
passed_to j true k r other h = absurd (other h)
passed_to j false k r other h = (refl, h)

-- a test that did not refuse
pub passed : (b : Bool) (k r : ℕ) → (k ≡ 0 → ⊥) → cond b k r ≡ 0 → (b ≡ false) × (r ≡ 0)
passed = passed_to 0

module _ {A : Type 0} where
  pub kept : {r : ℕ} (k : ℕ) (new old : A) → (r ≡ 0 → ⊥) → r ≡ k → old ≡ on_done k new old
  kept zero new old refused number = absurd (refused number)
  kept (suc k) new old refused number = refl

  -- on 0 the new value is there
  pub given : (k : ℕ) (new old : A) → 0 ≡ k → new ≡ on_done k new old
  given k new old done = ap (λ (j : ℕ). on_done j new old) done
