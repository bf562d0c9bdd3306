-- A list with an element put in, and without one.
-- Assumes nothing.
use Prim.Native.Nat.{ℕ, zero, suc, ◌+◌, ◌*◌, ◌≤◌, ◌<◌}
use mathlib.Core.Path.{◌≡◌, refl, ap, ap₂, ◌∙◌}
use mathlib.Core.Bool.{Bool, true, false}
use mathlib.Core.List.{List, [], ◌∷◌}
use native.Mathlib.Nat.{le_of_suc-le-suc, not-suc-le-zero, mul_left_comm}
use native.Mathlib.Omega.{arith}
use lib.ListN.{length, get_or}
use Rattle.lists.specs.Lists.{every, some, last_first, product}
use Rattle.lists.proofs.Lists.{and-true, every-head, every_rest, neither-of, last-first-same}
use Rattle.grid_slab.specs.Slab.{insert, without}

module _ {A : Type 0} where
  pub length_without : (p : ℕ) (xs : List A) → p < length xs → suc (length (without p xs)) ≡ length xs
  unfolding without
  length_without p [] h = absurd (not-suc-le-zero h)
  length_without zero (x ∷ xs) h = refl
  length_without (suc p) (x ∷ xs) h = ap suc (length_without p xs (le_of_suc-le-suc h))

  -- what stands before place p stays, and what stands after it moves down by one
  pub get_or-without-below : (p : ℕ) (xs : List A) (i : ℕ) (d : A) → i < p → get_or (without p xs) i d ≡ get_or xs i d
  unfolding without
  get_or-without-below p [] i d h = refl
  get_or-without-below zero (x ∷ xs) i d h = absurd (not-suc-le-zero h)
  get_or-without-below (suc p) (x ∷ xs) zero d h = refl
  get_or-without-below (suc p) (x ∷ xs) (suc i) d h = get_or-without-below p xs i d (le_of_suc-le-suc h)

  pub get_or-without-from : (p : ℕ) (xs : List A) (i : ℕ) (d : A) → p ≤ i → get_or (without p xs) i d ≡ get_or xs (suc i) d
  unfolding without
  get_or-without-from p [] i d h = refl
  get_or-without-from zero (x ∷ xs) i d h = refl
  get_or-without-from (suc p) (x ∷ xs) zero d h = absurd (not-suc-le-zero h)
  get_or-without-from (suc p) (x ∷ xs) (suc i) d h = get_or-without-from p xs i d (le_of_suc-le-suc h)

  -- what is taken out, put in again
  pub insert-without : (p : ℕ) (xs : List A) (d : A) → p < length xs → insert p (get_or xs p d) (without p xs) ≡ xs
  unfolding insert without
  insert-without p [] d h = absurd (not-suc-le-zero h)
  insert-without zero (x ∷ xs) d h = refl
  insert-without (suc p) (x ∷ xs) d h = ap (λ (l : List A). x ∷ l) (insert-without p xs d (le_of_suc-le-suc h))

  pub some-without : (p : A → Bool) (xs : List A) (i : ℕ) → some p xs ≡ false → some p (without i xs) ≡ false
  unfolding some without
  some-without p [] i h = refl
  some-without p (x ∷ xs) zero h = (neither-of (p x) (some p xs) h).1
  some-without p (x ∷ xs) (suc i) h = let none = neither-of (p x) (some p xs) h in rw none.0 (some-without p xs i none.1)

-- ---- lists of numbers

-- the element at place i of the first elements is, last first, the one that p elements stand before
pub without-last-first : (xs : List ℕ) (n i p : ℕ) → i + p ≡ n → last_first n (without i xs) ≡ without p (last_first (suc n) xs)
unfolding last_first without
without-last-first xs n i zero e = last-first-same n (without i xs) xs (λ q l. get_or-without-below i xs q 0 (omega arith))
without-last-first xs zero i (suc p) e = absurd (omega arith)
without-last-first xs (suc n) i (suc p) e =
    ap₂ (λ (x : ℕ) (l : List ℕ). x ∷ l) (get_or-without-from i xs n 0 (omega arith)) (without-last-first xs n i p (omega arith))

pub every-without : (p : ℕ → Bool) (xs : List ℕ) (i : ℕ) → every p xs ≡ true → every p (without i xs) ≡ true
unfolding every without
every-without p [] i h = refl
every-without p (x ∷ xs) zero h = every_rest p x xs h
every-without p (x ∷ xs) (suc i) h = and-true (p x) _ (every-head p x xs h) (every-without p xs i (every_rest p x xs h))

-- the product of all is that of the others times the element
pub product-part : (xs : List ℕ) (i : ℕ) → i < length xs → product xs ≡ get_or xs i 0 * product (without i xs)
unfolding product without
product-part [] i h = absurd (not-suc-le-zero h)
product-part (x ∷ xs) zero h = refl
product-part (x ∷ xs) (suc i) h = ap (λ (y : ℕ). x * y) (product-part xs i (le_of_suc-le-suc h)) ∙ mul_left_comm x (get_or xs i 0) (product (without i xs))
