-- Where the Rust's upper node of inks 5 and up is another than ours: exactly where the rounded p + 1 skips a node and that is still at or below g - 1.
-- `rust-agrees`: elsewhere the two are one. `rust-skips`: there the Rust's is two lines above the lower node, ours one.
-- Assumes nothing.
use Rattle.std.proofs.Common.{◌≡◌, ℕ, ◌+◌, ◌-◌, ◌*◌, ◌/◌, ◌%◌, ◌<◌, ◌≤◌, min, Bool, true, false, cond, ltb, ◌⊎◌, sym, refl, ap, ◌∙◌, subst, inl, inr, mod-lt, zero-lt-suc, div-lt_iff_lt-mul, mul-pos, div-add-mod', le-div_iff_mul-le, arith, lit≤, ltb-false, ltb-true}
use native.Mathlib.Decide.{dec_le}
use lib.Ieee.{Float, binary32, round, lt}
use lib.Ieee.Positive.{num, den, den_pos}
use Rattle.binary32.specs.Range.{UpTo, Below}
use Rattle.binary32.specs.Numbers.{one}
use Rattle.binary32.proofs.Values.{lt-is, add-values}
use Rattle.binary32.proofs.Ranges.{below-own, up_to-below, round-up_to, round-from}
use Rattle.binary32.proofs.Whole.{whole_is, whole-lt}
use Rattle.cell.specs.Rule.{line, product_of, whole_of, next_of}
use Rattle.cell.specs.Skipping.{sum_of, rust_next_of, Skips}
use Rattle.cell.proofs.Within.{last, line-is, whole-line, in-grid, product-up_to}

-- a / c + 1 lies from one to two above k, the whole part of a / c
one-above : (a c k : ℕ) → 0 < c → k ≡ a / c → (a * 1 + 1 * c ≤ (k + 2) * (c * 1)) × ((k + 1) * (c * 1) ≤ a * 1 + 1 * c)
one-above a c k C e =
    let split : a / c * c + a % c ≡ a = div-add-mod' a c in
    let rest : a % c < c = mod-lt a C in
    let same : k * c ≡ a / c * c = ap (λ (z : ℕ). z * c) e in
    (omega arith, omega arith)

module _ (p : Float) (H : Below 255 p) where
  whole : whole_of p ≡ num p / den p
  whole = whole_is 64 255 p (lit≤ tt) H

  small : whole_of p < 255
  small = whole-lt 64 255 p (lit≤ tt) H

  room : (k b : ℕ) → k ≤ 3 → 258 ≤ b → whole_of p + k ≤ b
  room k b K B = omega (arith, small)

  sum_is : sum_of p ≡ round binary32 false (num p * 1 + 1 * den p) (den p * 1)
  sum_is = add-values binary32 p one (num p) (den p) 1 1 (den_pos p) (zero-lt-suc 0) (below-own 255 p H).0 (refl, refl)

  positive : 0 < den p * 1
  positive = mul-pos (den_pos p) (zero-lt-suc 0)

  -- the sum lies from one to two above the whole part, and what is rounded stays there
  sum-up_to : UpTo (whole_of p + 2) (sum_of p)
  sum-up_to =
      rw sum_is
      (round-up_to binary32 _ _ (whole_of p + 2) positive (room 2 _ (lit≤ tt) (lit≤ tt)) (one-above (num p) (den p) (whole_of p) (den_pos p) whole).0)

  sum_below : Below 257 (sum_of p)
  sum_below = up_to-below (whole_of p + 2) 257 (sum_of p) (omega (arith, small)) sum-up_to

  sum-whole : whole_of (sum_of p) ≡ num (sum_of p) / den (sum_of p)
  sum-whole = whole_is 64 257 (sum_of p) (lit≤ tt) sum_below

  sum_to : whole_of (sum_of p) ≤ whole_of p + 2
  sum_to =
      let h = up_to-below (whole_of p + 2) (whole_of p + 3) (sum_of p) (omega arith) sum-up_to in
      omega (arith, whole-lt 64 (whole_of p + 3) (sum_of p) (room 3 _ (lit≤ tt) (lit≤ tt)) h)

  sum-from : whole_of p + 1 ≤ whole_of (sum_of p)
  sum-from =
      let z = sum_of p in
      let h : (whole_of p + 1) * den z ≤ num z =
      rw sum_is
      (round-from binary32 _ _ (whole_of p + 1) 257 positive (room 1 _ (lit≤ tt) (lit≤ tt)) (one-above (num p) (den p) (whole_of p) (den_pos p) whole).1 (subst (Below 257) sum_is sum_below)) in
      omega (arith, (le-div_iff_mul-le (den_pos z)).1 h, sum-whole)

  -- the whole part of the smaller of the sum and line n
  smaller-whole : (n : ℕ) → n < 255 → whole_of (cond (lt (sum_of p) (line n)) (sum_of p) (line n)) ≡ min (whole_of (sum_of p)) n
  smaller-whole n N = go (lt (sum_of p) (line n)) refl
    where
      a : ℕ
      a = num (sum_of p)

      c : ℕ
      c = den (sum_of p)

      compared : lt (sum_of p) (line n) ≡ ltb (a * 1) (n * c)
      compared = lt-is (sum_of p) (line n) a c n 1 (den_pos (sum_of p)) (zero-lt-suc 0) (below-own 257 (sum_of p) sum_below).0 (line-is n (omega arith))

      go : (b : Bool) → lt (sum_of p) (line n) ≡ b → whole_of (cond b (sum_of p) (line n)) ≡ min (whole_of (sum_of p)) n
      go true t =
          let h : a * 1 < n * c = ltb-true (a * 1) (n * c) (sym compared ∙ t) in
          let k : a / c < n = (div-lt_iff_lt-mul (den_pos (sum_of p))).1 (omega arith) in
          omega (arith, sum-whole)
      go false t =
          let h : n * c ≤ a * 1 = ltb-false (a * 1) (n * c) (sym compared ∙ t) in
          let k : n ≤ a / c = (le-div_iff_mul-le (den_pos (sum_of p))).1 (omega arith) in
          omega (arith, sum-whole, whole-line n (omega arith))

  rust-next : (g : ℕ) → g < 256 → rust_next_of p g ≡ min (whole_of (sum_of p)) (g - 1)
  unfolding rust_next_of
  rust-next g G = smaller-whole (g - 1) (last g G)

module _ (x : Float) (g : ℕ) (G : g < 256) where
  below : Below 255 (product_of x g)
  below = in-grid (g - 1) (product_of x g) (last g G) (product-up_to x g G)

  pub rust-agrees : (rust_next_of (product_of x g) g ≡ next_of (whole_of (product_of x g)) g) ⊎ Skips (product_of x g) g
  unfolding next_of
  rust-agrees =
      let p = product_of x g in
      let is = rust-next p below g G in
      let from = sum-from p below in
      let to = sum_to p below in
      elim (dec_le (whole_of p + 2) (whole_of (sum_of p))) [
        | yes h ↦ elim (dec_le (whole_of (sum_of p)) (g - 1)) [
          | yes k ↦ inr (omega arith, omega arith)
          | no k ↦ inl (omega arith)
        ]
        | no h ↦ inl (omega arith)
      ]

  pub rust-skips : Skips (product_of x g) g → (rust_next_of (product_of x g) g ≡ whole_of (product_of x g) + 2) × (next_of (whole_of (product_of x g)) g ≡ whole_of (product_of x g) + 1)
  unfolding next_of
  rust-skips s =
      let p = product_of x g in
      let to = sum_to p below in
      (omega (arith, rust-next p below g G, s.0, s.1), omega (arith, s.0, s.1))
