-- The product p of a clipped input and g - 1 lies from +0 up to g - 1, and what follows for its whole part, p rounded up, the next node, and the weight.
-- Assumes nothing.
use Rattle.std.proofs.Common.{◌≡◌, ℕ, suc, ◌+◌, ◌-◌, ◌*◌, ◌/◌, ◌%◌, ◌^◌, ◌<◌, ◌≤◌, min, Bool, true, false, cond, not, T, ltb, ◌⊎◌, pos, sym, refl, ◌∙◌, subst, inl, inr, le_trans, le_of_eq, le_refl, lt_of_lt_of_le, le_of_suc-le-suc, le-add_right, le_of_lt, mul-le-mul_right, mod-lt, zero-lt-suc, lt_of_mul-lt-mul_right, mul-pos, one-mul, div-add-mod', mul-one, arith, lit≤, le→leb, nltb→le, ltb-false, ltb-true}
use lib.Ieee.{Float, nan, inf, fin, binary32, prec, up, down, mul, lt, in_float, fits}
use lib.Ieee.Back.{unsigned_back}
use lib.Ieee.Fits.{mul-fits, sub-fits}
use lib.Ieee.Exact.{HasValue}
use lib.Ieee.Positive.{num, den, den_pos}
use Rattle.binary32.specs.Range.{UpTo, Below}
use Rattle.binary32.specs.Numbers.{plus_zero, one}
use Rattle.cell.specs.Rule.{line, scale_of, ink_of, product_of, whole_of, up_of, weight_of, next_of}
use Rattle.binary32.proofs.Values.{lt-is, mul-values, line-value, zero-value}
use Rattle.binary32.proofs.Ranges.{below-value, up_to-own, up_to-below, round-up_to}
use Rattle.binary32.proofs.Whole.{whole_is, whole-lt, rest-exact}

-- ---- the product
pub ink-up_to : (x : Float) → UpTo 1 (ink_of x)
unfolding ink_of lt
ink-up_to nan = lit≤ tt
ink-up_to (inf true) = lit≤ tt
ink-up_to (inf false) = lit≤ tt
ink-up_to (fin true m e) = lit≤ tt
ink-up_to (fin false m e) = go (ltb (1 * down e) (m * up e * 1)) (ltb (0 * down e) (m * up e * 1)) (nltb→le (1 * down e) (m * up e * 1))
  where
    go : (s t : Bool) → (T (not s) → m * up e * 1 ≤ 1 * down e) → UpTo 1 (cond s one (cond t (fin false m e) plus_zero))
    go true t h = lit≤ tt
    go false true h = le_trans (le_of_eq (sym (mul-one (m * up e)))) (h tt)
    go false false h = lit≤ tt

-- a whole number that a grid can have is a value
small : (n : ℕ) → n < 256 → n ≤ 2 ^ prec binary32
small n h = le_trans (le_of_lt h) (lit≤ tt)

pub last : (g : ℕ) → g < 256 → g - 1 < 255
last g h = omega arith

module _ (ink : Float) (share : UpTo 1 ink) (g : ℕ) (byte : g < 256) where
  pub scaled-up_to : UpTo (g - 1) (mul binary32 ink (scale_of g))
  scaled-up_to =
      let n = g - 1 in
      let N : n ≤ 2 ^ prec binary32 = small n (omega (arith, last g byte)) in
      let u = up_to-own 1 ink share in
      subst (λ (p : Float). UpTo n p) (sym (mul-values binary32 ink (line n) (num ink) (den ink) n 1 (den_pos ink) (zero-lt-suc 0) u.0 (line-value binary32 n N)))
      (round-up_to binary32 (num ink * n) (den ink * 1) n (mul-pos (den_pos ink) (zero-lt-suc 0)) N
      (omega (arith, mul-le-mul_right n u.1)))

  pub scaled-below : Below 255 (mul binary32 ink (scale_of g))
  scaled-below = up_to-below (g - 1) 255 (mul binary32 ink (scale_of g)) (last g byte) scaled-up_to

pub product-up_to : (x : Float) (g : ℕ) → g < 256 → UpTo (g - 1) (product_of x g)
unfolding product_of
product-up_to x g byte = scaled-up_to (ink_of x) (ink-up_to x) g byte

pub product-fits : (x : Float) (g : ℕ) → T (fits binary32 (product_of x g))
unfolding product_of
product-fits x g = mul-fits binary32 (ink_of x) (scale_of g)

-- ---- grid lines
pub line-is : (k : ℕ) → k < 256 → HasValue (line k) false k 1
line-is k h = line-value binary32 k (small k h)

pub whole-line : (k : ℕ) → k < 256 → whole_of (line k) ≡ k
unfolding in_float
whole-line k h = (unsigned_back binary32 64 k (le→leb k (2 ^ prec binary32) (small k h)) (lt_of_lt_of_le h (lit≤ tt))).1

-- a node's number passes the cast to a float
pub castable : (p : Float) (k : ℕ) → Below 255 p → k ≡ whole_of p → T (in_float binary32 (pos k))
unfolding in_float
castable p k h e = le→leb k (2 ^ prec binary32) (small k (omega (arith, whole-lt 64 255 p (lit≤ tt) h)))

pub whole-below : (p : Float) (k : ℕ) → Below 255 p → k ≡ whole_of p → k < 255
whole-below p k h e = omega (arith, whole-lt 64 255 p (lit≤ tt) h)

-- ---- p rounded up is its whole part or one more
pub whole-le-up : (p : Float) → whole_of p ≤ up_of p
unfolding up_of
whole-le-up p = le-add_right _ _

pub up-le-next : (p : Float) → up_of p ≤ whole_of p + 1
unfolding up_of
up-le-next p = go (lt (line (whole_of p)) p)
  where
    go : (b : Bool) → whole_of p + cond b 1 0 ≤ whole_of p + 1
    go true = omega arith
    go false = omega arith

-- ---- what is made of a p from +0 up to n
module _ (n : ℕ) (p : Float) (N : n < 255) (U : UpTo n p) where
  pub in-grid : Below 255 p
  in-grid = up_to-below n 255 p N U

  pub whole_le : whole_of p ≤ n
  whole_le = le_of_suc-le-suc (whole-lt 64 (suc n) p (le_trans N (lit≤ tt)) (up_to-below n (suc n) p (le_refl (suc n)) U))

  pub whole-div : whole_of p ≡ num p / den p
  whole-div = whole_is 64 255 p (lit≤ tt) in-grid

  whole-value : HasValue (line (whole_of p)) false (whole_of p) 1
  whole-value = line-is (whole_of p) (omega (arith, whole_le))

  -- is p above its whole part? As a comparison of whole numbers
  compared : lt (line (whole_of p)) p ≡ ltb (whole_of p * den p) (num p * 1)
  compared = lt-is (line (whole_of p)) p (whole_of p) 1 (num p) (den p) (zero-lt-suc 0) (den_pos p) whole-value (up_to-own n p U).0

  -- then the whole part is below n
  room : lt (line (whole_of p)) p ≡ true → whole_of p < n
  room t = lt_of_mul-lt-mul_right (den p) (lt_of_lt_of_le (ltb-true (whole_of p * den p) (num p * 1) (sym compared ∙ t)) (le_trans (le_of_eq (mul-one (num p))) (up_to-own n p U).1))

  pub up_le : up_of p ≤ n
  unfolding up_of
  up_le = go (lt (line (whole_of p)) p) room
    where
      go : (b : Bool) → (b ≡ true → whole_of p < n) → whole_of p + cond b 1 0 ≤ n
      go true h = omega (arith, h refl)
      go false h = omega (arith, whole_le)

  -- p minus its whole part is not rounded, so it stays below 1
  pub weight-value : T (fits binary32 p) → HasValue (weight_of p) false (num p % den p) (den p)
  unfolding weight_of
  weight-value F = rw whole-div (rest-exact binary32 255 p F (lit≤ tt) in-grid)

  -- otherwise nothing is left
  nothing-over : lt (line (whole_of p)) p ≡ false → num p % den p ≡ 0
  nothing-over t =
      let a = num p in
      let c = den p in
      let h : a * 1 ≤ whole_of p * c = ltb-false (whole_of p * c) (a * 1) (sym compared ∙ t) in
      let split : a / c * c + a % c ≡ a = div-add-mod' a c in
      let whole : a * 1 ≤ a / c * c = rw whole-div at h in
      omega arith

  weight-zero : T (fits binary32 p) → lt (line (whole_of p)) p ≡ false → weight_of p ≡ plus_zero
  unfolding weight_of
  weight-zero F t = zero-value binary32 (weight_of p) (den p) (den_pos p) (sub-fits binary32 p (line (whole_of p))) (rw (nothing-over t) at (weight-value F))

  -- p rounded up is the node after its whole part, or the weight is +0
  pub up-or-none : T (fits binary32 p) → (g : ℕ) → g - 1 ≡ n → (next_of (whole_of p) g ≡ up_of p) ⊎ (weight_of p ≡ plus_zero)
  unfolding next_of up_of
  up-or-none F g e = go (lt (line (whole_of p)) p) room (weight-zero F)
    where
      go : (b : Bool) → (b ≡ true → whole_of p < n) → (b ≡ false → weight_of p ≡ plus_zero) → (min (whole_of p + 1) (g - 1) ≡ whole_of p + cond b 1 0) ⊎ (weight_of p ≡ plus_zero)
      go true h z = inl (omega (arith, h refl))
      go false h z = inr (z refl)

  pub weight-below : T (fits binary32 p) → Below 1 (weight_of p)
  weight-below F = below-value (weight_of p) 1 (num p % den p) (den p) (weight-value F) (lt_of_lt_of_le (mod-lt (num p) (den_pos p)) (le_of_eq (sym (one-mul (den p)))))

-- ---- the next node
module _ (lower g : ℕ) where
  pub next_le : next_of lower g ≤ g - 1
  unfolding next_of
  next_le = omega arith

  pub le_next : lower ≤ g - 1 → lower ≤ next_of lower g
  unfolding next_of
  le_next h = omega arith

  pub next-le-next : next_of lower g ≤ lower + 1
  unfolding next_of
  next-le-next = omega arith
