-- No distance leads out of the table. Assumes nothing.
use Prim.Native.Nat.{ℕ, ◌+◌, ◌*◌, ◌≤◌, ◌<◌, max}
use native.Mathlib.Omega.{arith}
use native.Mathlib.Nat.{mul_comm, mul_assoc, mul-le-mul_right, suc-mul}
use mathlib.Core.Path.{◌≡◌, ap, ◌∙◌}
use mathlib.Core.Bool.{true}
use mathlib.Core.List.{List, [], ◌∷◌}
use lib.Dec.{ltb}
use lib.Ieee.{Float, nan}
use lib.ListN.{length, get_or}
use borrow.Author.Tests.{ltb-true}
use Rattle.lists.specs.Lists.{every, product}
use Rattle.lists.proofs.Lists.{every-head, every_rest}
use Rattle.cell.specs.Rule.{ink_cell}
use Rattle.cell.proofs.Laws.{ink-on-grid}
use Rattle.lookup.specs.Table.{cells}
use Rattle.lookup.specs.Places.{reach, strides, scaled}

-- what one more ink adds: nodes below g at distances of m
one_more : (x xn g m p r : ℕ) → x < g → xn < g → r + m * g ≤ p * (m * g) → max (x * m) (xn * m) + r + m ≤ g * p * m
one_more x xn g m p r hx hxn le = omega (arith, below x hx, below xn hxn, whole)
  where
    below : (k : ℕ) → k < g → k * m + m ≤ m * g
    below k h = omega (arith, mul-le-mul_right m h, suc-mul k m, mul_comm g m)

    whole : g * p * m ≡ p * (m * g)
    whole = ap (λ (q : ℕ). q * m) (mul_comm g p) ∙ mul_assoc p g m ∙ ap (λ (q : ℕ). p * q) (mul_comm g m)

-- no distance leads out of the table
pub reach-total : (gs : List ℕ) (xs : List Float) (m : ℕ) → every (ltb 0) gs ≡ true → every (λ g. ltb g 256) gs ≡ true
    → reach (scaled (strides m gs) (cells gs xs)) + m ≤ product gs * m
unfolding cells product
reach-total [] xs m some bytes = omega arith
reach-total (g ∷ gs) xs m some bytes =
    let on = ink-on-grid (get_or xs (length gs) nan) g (ltb-true g 256 (every-head (λ k. ltb k 256) g gs bytes)) (length gs) in
    let pos : 0 < g = ltb-true 0 g (every-head (ltb 0) g gs some) in
    let c = ink_cell (length gs) g (get_or xs (length gs) nan) in
    one_more c.x c.x_n g m (product gs) (reach (scaled (strides (m * g) gs) (cells gs xs)))
    (omega (arith, on.lower)) (omega (arith, on.upper))
    (reach-total gs xs (m * g) (every_rest (ltb 0) g gs some) (every_rest (λ k. ltb k 256) g gs bytes))
