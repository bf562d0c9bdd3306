-- Sums: `sum_same`: a sum depends on its terms alone; `sum_past`: terms of 0 add nothing. `check-next`: the check is kept modulo
-- 2 ^ 32 word by word. Assumes nothing.
use Rattle.std.proofs.Common.{◌≡◌, ℕ, zero, suc, ◌+◌, ◌%◌, ◌<◌, ◌≤◌, sym, refl, ap, ◌∙◌, add-zero, add-suc, add-one, arith}
use native.Mathlib.Nat.{mod-add-mod}
use Rattle.flash.specs.File.{sum_to}

pub check-next : (f : ℕ → ℕ) (j s w r : ℕ) → s ≡ sum_to f j % 4_294_967_296 → w ≡ f j → r ≡ (s + w) % 4_294_967_296 → r ≡ sum_to f (j + 1) % 4_294_967_296
unfolding sum_to
check-next f j s w r before word is =
    is
    ∙ (λ i. (before i + word i) % 4_294_967_296)
    ∙ mod-add-mod (sum_to f j) 4_294_967_296 (f j)
    ∙ ap (λ (k : ℕ). sum_to f k % 4_294_967_296) (sym (add-one j))

pub sum_same : (f g : ℕ → ℕ) (k : ℕ) → ((j : ℕ) → j < k → f j ≡ g j) → sum_to f k ≡ sum_to g k
unfolding sum_to
sum_same f g zero h = refl
sum_same f g (suc k) h = λ i. sum_same f g k (λ j l. h j (omega arith)) i + h k (omega arith) i

pub sum_past : (f : ℕ → ℕ) (a k : ℕ) → ((i : ℕ) → a ≤ i → i < a + k → f i ≡ 0) → sum_to f (a + k) ≡ sum_to f a
unfolding sum_to
sum_past f a zero h = ap (sum_to f) (add-zero a)
sum_past f a (suc k) h =
    ap (sum_to f) (add-suc a k)
    ∙ (λ i. sum_past f a k (λ j l s. h j l (omega arith)) i + h (a + k) (omega arith) (omega arith) i)
    ∙ add-zero (sum_to f a)
