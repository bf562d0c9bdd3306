-- The cells of 8-bit codes, written one field at a time. Assumes nothing.
use Rattle.std.proofs.Common.{◌≡◌, ℕ, zero, suc, ◌+◌, ◌<◌, List, refl, ap, ◌∙◌, arith, ne_eqb}
use Rattle.std.specs.Prelude.{Ok, Err}
use native.Mathlib.Nat.{suc-ne-zero}
use lib.Ieee.{Float}
use lib.ListN.{set}
use Rattle.outcome.specs.declared.Refusal.{Refusal}
use Rattle.outcome.specs.Refused.{number_of}
use Rattle.outcome.proofs.Numbers.{not_done}
use Rattle.lists.specs.Buffer.{written, left}
use Rattle.lists.proofs.Buffer.{written_next}
use Rattle.cell.specs.declared.Cell.{Cell}
use Rattle.weights.specs.Rule.{RangedCell, ranged, ranged_cell, ranged_cell_in, weight_cell}
use Rattle.tenahvar.specs.Weights.{RangedInto}

-- a size above 0 is not refused, and a code's cell is the rule's
pub some_size : (g : ℕ) → 0 < g → 0 ≡ (ranged g).refusal
unfolding ranged
some_size g h = simp (ne_eqb g 0 (λ e. absurd (omega arith)))

code-cell : (g i : ℕ) → ranged_cell (suc g) i ≡ record { refusal = 0; cell = weight_cell (suc g) i }
unfolding ranged_cell
code-cell g i = simp (ne_eqb (suc g) 0 (suc-ne-zero g))

-- a cell: the size is not 0, and it is the rule's
pub given-cell : (g i : ℕ) (c : Cell) → ranged_cell_in (Ok c) ≡ ranged_cell g i → (0 < g) × (c ≡ weight_cell g i)
unfolding ranged_cell
given-cell zero i c h = let z : ◌≡◌ {A = ℕ} 0 3 = ap (λ (r : RangedCell). r.refusal) h in absurd (omega arith)
given-cell (suc g) i c h = (omega arith, ap (λ (r : RangedCell). r.cell) (h ∙ code-cell g i))

-- a refusal: the size is 0, and its number is 3
pub no-cell : (g i : ℕ) (e : Refusal) → ranged_cell_in (Err e) ≡ ranged_cell g i → (g ≡ 0) × (number_of e ≡ 3)
unfolding ranged_cell
no-cell zero i e h = (refl, ap (λ (r : RangedCell). r.refusal) h)
no-cell (suc g) i e h = absurd (not_done e (ap (λ (r : RangedCell). r.refusal) (h ∙ code-cell g i)))

-- where the first code is refused nothing is written
pub none-written : (g i : ℕ) (e : Refusal) (x n : List ℕ) (w : List Float) → (0 < i → 0 < g) → ranged_cell_in (Err e) ≡ ranged_cell g i
    → (x₀ n₀ : List ℕ) (w₀ : List Float) → x ≡ written (λ k. (weight_cell g k).x) i x₀ → n ≡ written (λ k. (weight_cell g k).x_n) i n₀ → w ≡ written (λ k. (weight_cell g k).w) i w₀
    → RangedInto g x₀ n₀ w₀ (number_of e) x n w
unfolding ranged written
none-written zero zero e x n w sized refuses x₀ n₀ w₀ lower upper weight =
    let number : number_of e ≡ 3 = (no-cell zero zero e refuses).1 in
    record { number = number; lower = lower; upper = upper; weight = weight }
none-written zero (suc i) e x n w sized refuses x₀ n₀ w₀ lower upper weight = let some : 0 < 0 = sized (omega arith) in absurd (omega arith)
none-written (suc g) i e x n w sized refuses x₀ n₀ w₀ lower upper weight = let z = (no-cell (suc g) i e refuses).0 in absurd (omega arith)

module _ {A : Type 0} (field : Cell → A) (g : ℕ) where
  -- one code more
  pub code-next : (i : ℕ) (c : Cell) (old now : List A) → ranged_cell_in (Ok c) ≡ ranged_cell g i → now ≡ written (λ k. field (weight_cell g k)) i old
      → set now i (field c) ≡ written (λ k. field (weight_cell g k)) (i + 1) old
  code-next i c old now is so_far =
      (λ k. set (so_far k) i (field ((given-cell g i c is).1 k))) ∙ written_next (λ k. field (weight_cell g k)) i old

  -- all of them
  pub codes_all : (i : ℕ) (old now : List A) → 0 < g → i ≡ 256 → now ≡ written (λ k. field (weight_cell g k)) i old
      → now ≡ left (ranged g).refusal (λ k. field (weight_cell g k)) 256 old
  codes_all i old now some last so_far =
      so_far ∙ ap (λ (k : ℕ). written (λ j. field (weight_cell g j)) k old) last ∙ ap (λ (r : ℕ). left r (λ k. field (weight_cell g k)) 256 old) (some_size g some)
