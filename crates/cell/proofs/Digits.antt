-- The whole part of a value from +0 up and below 255, from its bit pattern b: of the 24 digits, the leading one and the fraction, those before the point.
-- `exponent-le`: the exponent's field is at most 134. `none_left`: with all digits behind the point none is left. `whole-digits`: those before the point are the whole part.
-- Assumes nothing.
use Rattle.std.proofs.Common.{◌≡◌, ℕ, ◌+◌, ◌-◌, ◌*◌, ◌/◌, ◌%◌, ◌^◌, ◌<◌, ◌≤◌, true, false, sym, refl, ap, ◌∙◌, le_trans, le_of_eq, lt_of_lt_of_le, div-lt_iff_lt-mul, le-div_iff_mul-le, zero-add, div-one, arith, lit≤, pow_pos, pow_mono, pow-add, shr-shr}
use native.Mathlib.Nat.{div-eq_of_lt, div-div-eq-div-mul, mul-div-mul_right}
use native.Mathlib.Decide.{dec_lt}
use lib.Ieee.{Float, nan, inf, fin, binary32, up, down, size, to_bits}
use lib.Ieee.Digits.{size-le, size_reaches}
use lib.Ieee.Fits.{kept-lt}
use lib.Ieee.Positive.{num, den}
use Rattle.binary32.specs.Range.{Below}
use Rattle.binary32.proofs.Whole.{whole_is, whole-lt}
use Rattle.cell.specs.Rule.{whole_of}

-- the exponent's field of a pattern with the sign clear
abbrev pub exponent : ℕ → ℕ
exponent b = b / 2 ^ 23

-- the leading one and the fraction
abbrev pub digits : ℕ → ℕ
digits b = b % 2 ^ 23 + 2 ^ 23

-- how many digits stand behind the point
abbrev pub behind : ℕ → ℕ
behind b = 150 - exponent b

pub none_left : (b k : ℕ) → 24 ≤ k → digits b / 2 ^ k ≡ 0
none_left b k h = let short : digits b < 2 ^ 24 = omega arith in div-eq_of_lt (lt_of_lt_of_le short (pow_mono h))

-- ---- the pattern that keeps q of a magnitude of n units of 2 ^ -149 and drops k digits
module _ (n k q : ℕ) (kept : q ≡ n / 2 ^ k) (room : q < 2 ^ 24) (full : 0 < k → 2 ^ 23 ≤ q) (few : k ≤ 133) where
  abbrev b : ℕ
  b = k * 2 ^ 23 + q

  -- a subnormal drops no digit and has none before the point
  subnormal : q < 2 ^ 23 → k ≡ 0 → digits b / 2 ^ behind b ≡ n / 2 ^ 149
  subnormal h z =
      let same : q ≡ n = kept ∙ ap (λ (j : ℕ). n / 2 ^ j) z ∙ div-one n in
      let small : n < 2 ^ 23 = omega arith in
      none_left b (behind b) (omega arith) ∙ sym (div-eq_of_lt (lt_of_lt_of_le small (lit≤ tt)))

  normal : 2 ^ 23 ≤ q → digits b / 2 ^ behind b ≡ n / 2 ^ 149
  normal h =
      let all : digits b ≡ q = omega arith in
      let point : behind b ≡ 149 - k = omega arith in
      let dropped : k + (149 - k) ≡ 149 = omega arith in
      ap (λ (d : ℕ). d / 2 ^ behind b) all
      ∙ ap (λ (j : ℕ). q / 2 ^ j) point
      ∙ ap (λ (d : ℕ). d / 2 ^ (149 - k)) kept
      ∙ shr-shr n k (149 - k)
      ∙ ap (λ (j : ℕ). n / 2 ^ j) dropped

  none_dropped : q < 2 ^ 23 → k ≡ 0
  none_dropped h = elim (dec_lt 0 k) [
    | yes d ↦ absurd (omega (arith, full d))
    | no d ↦ omega arith
  ]

  tells : exponent b ≤ 134 × (digits b / 2 ^ behind b ≡ n / 2 ^ 149)
  tells = (
    omega arith,
    elim (dec_lt q (2 ^ 23)) [
      | yes h ↦ subnormal h (none_dropped h)
      | no h ↦ normal (omega arith)
    ],
  )

-- ---- the pattern of a value keeps the 24 leading digits of its magnitude
abbrev units : Float → ℕ
units p = num p * 2 ^ 149 / den p

abbrev pattern : ℕ → ℕ
pattern n = (size n - 24) * 2 ^ 23 + n / 2 ^ (size n - 24)

bits_are : (p : Float) → Below 255 p → to_bits binary32 p ≡ pattern (units p)
unfolding to_bits
bits_are nan h = absurd h
bits_are (inf s) h = absurd h
bits_are (fin true m e) h = absurd h
bits_are (fin false m e) h = let n = m * up e * 2 ^ 149 / down e in ap (λ (z : ℕ). z + n / 2 ^ (size n - 24)) (zero-add ((size n - 24) * 2 ^ 23))

-- where digits are dropped, 24 are kept
leading : (n : ℕ) → 0 < size n - 24 → 2 ^ 23 ≤ n / 2 ^ (size n - 24)
leading n d =
    let z = size n in
    let used : 23 + (z - 24) < z = omega arith in
    (le-div_iff_mul-le (pow_pos (z - 24))).1 (le_trans (le_of_eq (sym (pow-add 2 23 (z - 24)))) (size_reaches n (23 + (z - 24)) used))

module _ (p : Float) (h : Below 255 p) where
  whole-units : units p / 2 ^ 149 ≡ whole_of p
  whole-units = div-div-eq-div-mul (num p * 2 ^ 149) (den p) (2 ^ 149) ∙ mul-div-mul_right (num p) (den p) (pow_pos 149) ∙ sym (whole_is 64 255 p (lit≤ tt) h)

  in_reach : units p < 2 ^ 157
  in_reach =
      let below : units p / 2 ^ 149 < 255 = rw whole-units (whole-lt 64 255 p (lit≤ tt) h) in
      lt_of_lt_of_le ((div-lt_iff_lt-mul (pow_pos 149)).0 below) (lit≤ tt)

  told : exponent (to_bits binary32 p) ≤ 134 × (digits (to_bits binary32 p) / 2 ^ behind (to_bits binary32 p) ≡ units p / 2 ^ 149)
  told =
      let n = units p in
      let k = size n - 24 in
      rw (bits_are p h) (tells n k (n / 2 ^ k) refl (kept-lt 24 n) (leading n) (omega (arith, size-le n 157 in_reach)))

  pub exponent-le : exponent (to_bits binary32 p) ≤ 134
  exponent-le = told.0

  pub whole-digits : digits (to_bits binary32 p) / 2 ^ behind (to_bits binary32 p) ≡ whole_of p
  whole-digits = told.1 ∙ whole-units
