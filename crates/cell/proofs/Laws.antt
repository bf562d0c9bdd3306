-- What callers may rely on of a cell, for any size g that a byte holds. (At g = 0 the cell is that of g = 1.)
-- `low-on-grid`, `high-on-grid`, `ink-on-grid`: both nodes are at most g - 1, one or neighbours, and the weight is from +0 up and below 1.
-- `rules-alike`: the two rules give one lower node and one weight, and one upper node too unless that weight is +0.
-- `low_fits`, `high_fits`: the weight is a value of binary32; `low-share`, `high-share`: so it is one from 0 to 1.
-- `low-line`, `high-line`: where the product is grid line k, the lower node is k and the weight is +0, and for inks 1 to 4 the upper node is k too.
-- `product-line`: such a k is a line of the grid. `line-of-weight`: a weight of +0 says that the product is a grid line. `low-one`, `high_one`: with one line a cell is node 0 with weight +0.
-- Assumes nothing.
use Rattle.std.proofs.Common.{◌≡◌, ℕ, ◌+◌, ◌-◌, ◌*◌, ◌/◌, ◌%◌, ◌<◌, ◌≤◌, Bool, true, false, cond, T, ltb, ◌⊎◌, pos, sym, refl, ap, ◌∙◌, subst, le_trans, le_of_eq, le_refl, lt_of_lt_of_le, lt_of_le_of_lt, add-zero, zero-lt-suc, div-add-mod', zero-mul, mul-one, arith, lit<, lit≤, le-ltb}
use native.Mathlib.Nat.{sub_self}
use native.Mathlib.Decide.{dec_lt}
use lib.Arith.{le-zero}
use lib.Ieee.{Float, binary32, round, lt, sub, fits, of_int}
use lib.Ieee.Exact.{HasValue}
use lib.Ieee.Back.{whole_unique}
use lib.Ieee.Fits.{sub-fits, of_int-fits}
use lib.Ieee.Positive.{num, den, den_pos}
use Rattle.binary32.specs.Range.{UpTo, Below, Share}
use Rattle.binary32.specs.Numbers.{plus_zero}
use Rattle.binary32.proofs.Values.{lt-is, sub-values, zero-value, revalue}
use Rattle.binary32.proofs.Exact.{round-zero}
use Rattle.binary32.proofs.Ranges.{up_to-own, below-own, below-share, round-from}
use Rattle.cell.specs.declared.Cell.{Cell}
use Rattle.cell.specs.Rule.{OnGrid, line, product_of, whole_of, up_of, weight_of, next_of, cell_at, cell_low, cell_high, ink_cell}
use Rattle.cell.proofs.Within.{last, line-is, product-up_to, product-fits, in-grid, whole_le, up_le, whole-le-up, up-le-next, weight-value, weight-below, up-or-none, whole-div, next_le, le_next, next-le-next, whole-line}

-- ---- both nodes and the weight
module _ (x : Float) (g : ℕ) (G : g < 256) where
  -- the cell of the product, with an upper node in the grid that is the lower one or the next
  on-grid : (upper : ℕ) → upper ≤ g - 1 → whole_of (product_of x g) ≤ upper → upper ≤ whole_of (product_of x g) + 1 → OnGrid (g - 1) (cell_at (product_of x g) upper)
  on-grid upper h k l =
      let p = product_of x g in
      record {
        lower = whole_le (g - 1) p (last g G) (product-up_to x g G);
        upper = h;
        ordered = k;
        neighbours = l;
        weight = weight-below (g - 1) p (last g G) (product-up_to x g G) (product-fits x g);
      }

  pub low-on-grid : OnGrid (g - 1) (cell_low x g)
  unfolding cell_low
  low-on-grid = let p = product_of x g in on-grid (up_of p) (up_le (g - 1) p (last g G) (product-up_to x g G)) (whole-le-up p) (up-le-next p)

  pub high-on-grid : OnGrid (g - 1) (cell_high x g)
  unfolding cell_high
  high-on-grid =
      let lower = whole_of (product_of x g) in
      on-grid (next_of lower g) (next_le lower g) (le_next lower g (whole_le (g - 1) (product_of x g) (last g G) (product-up_to x g G))) (next-le-next lower g)

  -- whichever rule an ink takes
  pub ink-on-grid : (i : ℕ) → OnGrid (g - 1) (ink_cell i g x)
  unfolding ink_cell
  ink-on-grid i = go (ltb i 4)
    where
      go : (low : Bool) → OnGrid (g - 1) (cond low (cell_low x g) (cell_high x g))
      go true = low-on-grid
      go false = high-on-grid

-- ---- the two rules

-- two cells that entries from 0 to 1 cannot tell apart: the upper nodes may differ where they have no weight
pub record Alike (c d : Cell) : Type 0 where
  pub lower : c.x ≡ d.x
  pub weight : c.w ≡ d.w
  pub upper : (c.x_n ≡ d.x_n) ⊎ (d.w ≡ plus_zero)

pub rules-alike : (x : Float) (g : ℕ) → g < 256 → Alike (cell_high x g) (cell_low x g)
unfolding cell_high cell_low
rules-alike x g G =
    record {
      lower = refl;
      weight = refl;
      upper = up-or-none (g - 1) (product_of x g) (last g G) (product-up_to x g G) (product-fits x g) g refl;
    }

-- ---- the weight is a binary32 value from 0 to 1
weight-fits : (p : Float) → T (fits binary32 (weight_of p))
unfolding weight_of
weight-fits p = sub-fits binary32 p (line (whole_of p))

pub low_fits : (x : Float) (g : ℕ) → T (fits binary32 (cell_low x g).w)
unfolding cell_low
low_fits x g = weight-fits (product_of x g)

pub high_fits : (x : Float) (g : ℕ) → T (fits binary32 (cell_high x g).w)
unfolding cell_high
high_fits x g = weight-fits (product_of x g)

pub low-share : (x : Float) (g : ℕ) → g < 256 → Share (cell_low x g).w
low-share x g G = below-share (cell_low x g).w (low_fits x g) (low-on-grid x g G).weight

pub high-share : (x : Float) (g : ℕ) → g < 256 → Share (cell_high x g).w
high-share x g G = below-share (cell_high x g).w (high_fits x g) (high-on-grid x g G).weight

-- ---- on a grid line
module _ (k : ℕ) (K : k < 256) where
  not-above : lt (line k) (line k) ≡ false
  not-above = lt-is (line k) (line k) k 1 k 1 (zero-lt-suc 0) (zero-lt-suc 0) (line-is k K) (line-is k K) ∙ le-ltb (k * 1) (k * 1) (le_refl (k * 1))

  up-line : up_of (line k) ≡ k
  unfolding up_of
  up-line = simp (whole-line k K, not-above) (add-zero k)

  weight-line : weight_of (line k) ≡ plus_zero
  unfolding weight_of
  weight-line =
      ap (λ (j : ℕ). sub binary32 (line k) (line j)) (whole-line k K)
      ∙ sub-values binary32 (line k) (line k) k 1 k 1 (zero-lt-suc 0) (zero-lt-suc 0) (line-is k K) (line-is k K) (le_refl (k * 1))
      ∙ round-zero binary32 false (k * 1 - k * 1) 1 (sub_self (k * 1)) (zero-lt-suc 0)

  pub low-line : (x : Float) (g : ℕ) → product_of x g ≡ line k → cell_low x g ≡ record { x = k; x_n = k; w = plus_zero }
  unfolding cell_low
  low-line x g e = simp (e, whole-line k K, up-line, weight-line)

  pub high-line : (x : Float) (g : ℕ) → product_of x g ≡ line k → cell_high x g ≡ record { x = k; x_n = next_of k g; w = plus_zero }
  unfolding cell_high
  high-line x g e = simp (e, whole-line k K, weight-line)

-- ---- a whole number from 256 up is not rounded to a number below 255, so a product on line k has k among the grid's lines
small_line : (k : ℕ) → Below 255 (line k) → k < 256
unfolding of_int
small_line k below = elim (dec_lt k 256) [
  | yes h ↦ h
  | no h ↦
      let r = round binary32 false k 1 in
      absurd (omega (arith, (below-own 255 r below).1, round-from binary32 k 1 256 255 (omega arith) (lit≤ tt) (omega arith) below))
]

pub product-line : (x : Float) (g k : ℕ) → g < 256 → product_of x g ≡ line k → k ≤ g - 1
product-line x g k byte on =
    let p = product_of x g in
    let up = product-up_to x g byte in
    let small = small_line k (subst (Below 255) on (in-grid (g - 1) p (last g byte) up)) in
    let same : whole_of p ≡ k = ap whole_of on ∙ whole-line k small in
    omega (arith, whole_le (g - 1) p (last g byte) up)

-- ---- a weight of +0
nothing_left : (r c : ℕ) → HasValue plus_zero false r c → r ≡ 0
nothing_left r c v = sym (mul-one r) ∙ sym v.1 ∙ zero-mul c

all_whole : (a c : ℕ) → a % c ≡ 0 → a * 1 ≡ a / c * c
all_whole a c e = mul-one a ∙ sym (div-add-mod' a c) ∙ ap (λ (r : ℕ). a / c * c + r) e ∙ add-zero (a / c * c)

pub line-of-weight : (x : Float) (g : ℕ) → g < 256 → weight_of (product_of x g) ≡ plus_zero → product_of x g ≡ line (whole_of (product_of x g))
line-of-weight x g G e =
    let p = product_of x g in
    let n = g - 1 in
    let l = last g G in
    let u = product-up_to x g G in
    let k = num p / den p in
    let z : num p % den p ≡ 0 = nothing_left (num p % den p) (den p) (rw e at (weight-value n p l u (product-fits x g))) in
    let K : k < 256 = lt_of_le_of_lt (le_of_eq (sym (whole-div n p l u))) (lt_of_le_of_lt (whole_le n p l u) (lt_of_lt_of_le l (lit≤ tt))) in
    whole_unique binary32 p (line k) false k (product-fits x g) (of_int-fits binary32 (pos k)) (revalue p (num p) (den p) k 1 (den_pos p) (all_whole (num p) (den p) z) (up_to-own n p u).0) (line-is k K)
    ∙ ap line (sym (whole-div n p l u))

-- ---- one line
none_at_all : (p : Float) → T (fits binary32 p) → UpTo 0 p → p ≡ plus_zero
none_at_all p F u =
    let o = up_to-own 0 p u in
    zero-value binary32 p (den p) (den_pos p) F (rw (le-zero (le_trans o.1 (le_of_eq (zero-mul (den p))))) at o.0)

line-zero : line 0 ≡ plus_zero
unfolding of_int
line-zero = round-zero binary32 false 0 1 refl (zero-lt-suc 0)

one_line : (x : Float) → product_of x 1 ≡ line 0
one_line x = none_at_all (product_of x 1) (product-fits x 1) (product-up_to x 1 (lit< tt)) ∙ sym line-zero

pub low-one : (x : Float) → cell_low x 1 ≡ record { x = 0; x_n = 0; w = plus_zero }
low-one x = low-line 0 (lit< tt) x 1 (one_line x)

pub high_one : (x : Float) → cell_high x 1 ≡ record { x = 0; x_n = 0; w = plus_zero }
high_one x = high-line 0 (lit< tt) x 1 (one_line x) ∙ ap (λ (k : ℕ). record { x = 0; x_n = k; w = plus_zero }) (le-zero (next_le 0 1))
