-- The count of reads in closed form: 2 for one ink, 4 for two, and for three and more 6, doubled by each ink from the fourth on that is
-- not skipped. Assumes nothing.
use Prim.Native.Nat.{ℕ, zero, suc, ◌+◌, ◌-◌, ◌*◌, ◌^◌, ◌≤◌}
use native.Mathlib.Omega.{arith}
use native.Mathlib.Nat.{pow-suc}
use mathlib.Core.Path.{◌≡◌, refl, sym, ap, ap₂, ◌∙◌}
use mathlib.Core.Bool.{Bool, true, false, cond}
use mathlib.Core.List.{List, [], ◌∷◌}
use lib.Ieee.{Float}
use lib.ListN.{length, take}
use Rattle.cell.specs.declared.Cell.{Cell}
use Rattle.lookup.specs.Table.{cells}
use Rattle.lookup.specs.Idle.{reads, weights_of, fourth_on, active}

-- ---- as many weights as inks

pub length-weights : (cs : List Cell) → length (weights_of cs) ≡ length cs
length-weights [] = refl
length-weights (c ∷ cs) = ap suc (length-weights cs)

pub length-cells : (gs : List ℕ) (xs : List Float) → length (cells gs xs) ≡ length gs
unfolding cells
length-cells [] xs = refl
length-cells (g ∷ gs) xs = ap suc (length-cells gs xs)

-- ---- the reads

module _ (skip : Float → Bool) where
  double : (p : ℕ) → 6 * p + 6 * p ≡ 6 * (p * 2)
  double p = omega arith

  -- one ink more: skipped, or not
  more : (ws : List Float) (n : ℕ) (b : Bool) → n ≡ 6 * 2 ^ active skip ws
      → cond b n (n + n) ≡ 6 * 2 ^ cond b (active skip ws) (suc (active skip ws))
  more ws n true is = is
  more ws n false is =
      ap₂ (λ (a b : ℕ). a + b) is is
      ∙ double (2 ^ active skip ws)
      ∙ ap (λ (p : ℕ). 6 * p) (sym (pow-suc 2 (active skip ws)))

  reads-by : (k : ℕ) (ws : List Float) → length ws ≡ suc (suc (suc k)) → reads skip ws ≡ 6 * 2 ^ active skip (take k ws)
  unfolding reads
  reads-by k [] n = absurd (omega arith)
  reads-by k (u ∷ []) n = absurd (omega arith)
  reads-by k (v ∷ u ∷ []) n = absurd (omega arith)
  reads-by zero (w ∷ v ∷ u ∷ []) n = refl
  reads-by (suc k) (w ∷ v ∷ u ∷ []) n = absurd (omega arith)
  reads-by zero (t ∷ w ∷ v ∷ u ∷ ws) n = absurd (omega arith)
  reads-by (suc k) (t ∷ w ∷ v ∷ u ∷ ws) n =
      more (take k (w ∷ v ∷ u ∷ ws)) (reads skip (w ∷ v ∷ u ∷ ws)) (skip t) (reads-by k (w ∷ v ∷ u ∷ ws) (omega arith))

  -- three inks and more
  pub reads_three : (ws : List Float) → 3 ≤ length ws → reads skip ws ≡ 6 * 2 ^ active skip (fourth_on ws)
  reads_three ws some = reads-by (length ws - 3) ws (omega arith)

  pub reads-one : (ws : List Float) → length ws ≡ 1 → reads skip ws ≡ 2
  unfolding reads
  reads-one [] is = absurd (omega arith)
  reads-one (u ∷ []) is = refl
  reads-one (v ∷ u ∷ ws) is = absurd (omega arith)

  pub reads_two : (ws : List Float) → length ws ≡ 2 → reads skip ws ≡ 4
  unfolding reads
  reads_two [] is = absurd (omega arith)
  reads_two (u ∷ []) is = absurd (omega arith)
  reads_two (v ∷ u ∷ []) is = refl
  reads_two (w ∷ v ∷ u ∷ ws) is = absurd (omega arith)

  -- no more than there are
  active-step : (n k : ℕ) (b : Bool) → n ≤ k → cond b n (suc n) ≤ suc k
  active-step n k true le = omega arith
  active-step n k false le = omega arith

  pub active-most : (ws : List Float) → active skip ws ≤ length ws
  active-most [] = omega arith
  active-most (w ∷ ws) = active-step (active skip ws) (length ws) (skip w) (active-most ws)
