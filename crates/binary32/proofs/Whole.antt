-- The whole part of a value below n, in either format: `whole_is`, `whole-lt`, what the cast to an integer of w bits gives; `rest-exact`, the value minus its whole part is not rounded. Assumes nothing.
use mathlib.Core.Path.{◌≡◌, refl, sym, ap, ◌∙◌, subst}
use Prim.Native.Nat.{ℕ, suc, ◌-◌, ◌*◌, ◌/◌, ◌%◌, ◌^◌, ◌≤◌, ◌<◌, min, zero-le}
use native.Mathlib.Nat.{le_trans, le_of_eq, le_of_lt, lt_of_le_of_lt, lt_of_lt_of_le, zero-lt-suc, mul-one, mul-pos, div-lt_iff_lt-mul, div-mul-le_self, mod-one, mod-le, mod-eq-sub-div-mul}
use native.Mathlib.Omega.{arith}
use mathlib.Core.Bool.{true, false}
use lib.Dec.{T}
use lib.IntN.{ℤ, pos, negsuc}
use lib.Ieee.{Float, nan, inf, fin, Format, prec, up, down, round, sub, of_int, to_unsigned, fits}
use lib.Ieee.Fits.{down_pos}
use lib.Ieee.Exact.{HasValue}
use lib.Ieee.Back.{round_whole}
use lib.Ieee.Scale.{round_same}
use lib.Ieee.Positive.{num, den, den_pos}
use Rattle.binary32.specs.Range.{Below}
use Rattle.binary32.proofs.Values.{sub-values, line-value}
use Rattle.binary32.proofs.Exact.{fits-says, round_keeps}
use Rattle.binary32.proofs.Ranges.{below-own}

-- ---- the whole part
uncapped : (a c : ℕ) → a < c → min a (c - 1) ≡ a
uncapped a c h = omega arith

pub whole_is : (w n : ℕ) (x : Float) → n ≤ 2 ^ w → Below n x → to_unsigned w x ≡ num x / den x
unfolding to_unsigned
whole_is w n nan N h = absurd h
whole_is w n (inf s) N h = absurd h
whole_is w n (fin true m e) N h = absurd h
whole_is w n (fin false m e) N h = uncapped (m * up e / down e) (2 ^ w) (lt_of_lt_of_le ((div-lt_iff_lt-mul (down_pos e)).1 h) N)

pub whole-lt : (w n : ℕ) (x : Float) → n ≤ 2 ^ w → Below n x → to_unsigned w x < n
whole-lt w n x N h = subst (λ (k : ℕ). k < n) (sym (whole_is w n x N h)) ((div-lt_iff_lt-mul (den_pos x)).1 (below-own n x h).1)

-- ---- what is left
-- the part of a value that its denominator leaves is a value
rest-round : (f : Format) (m : ℕ) (e : ℤ) → T (fits f (fin false m e)) → HasValue (round f false (m * up e % down e) (down e)) false (m * up e % down e) (down e)
rest-round f m (pos j) t = rw (mod-one (m * 2 ^ j)) (round_whole f false 0 zero-le)
rest-round f m (negsuc j) t =
    let r = m * 1 % 2 ^ suc j in
    let w = fits-says f false m (negsuc j) t in
    let l : r ≤ m * 1 = mod-le (m * 1) (2 ^ suc j) in
    rw (mul-one r) at (round_keeps f false r (negsuc j) (lt_of_le_of_lt (le_trans l (le_of_eq (mul-one m))) w.0) w.1 (lt_of_le_of_lt (le_trans (le_of_eq (mul-one r)) l) w.2))

rest-same : (a c : ℕ) → (a * 1 - a / c * c) * c ≡ a % c * (c * 1)
rest-same a c =
    ap (λ (z : ℕ). (z - a / c * c) * c) (mul-one a) ∙ ap (λ (z : ℕ). z * c) (sym (mod-eq-sub-div-mul a c)) ∙ ap (λ (z : ℕ). a % c * z) (sym (mul-one c))

-- x minus its whole part is exact
pub rest-exact : (f : Format) (n : ℕ) (x : Float) → T (fits f x) → n ≤ 2 ^ prec f → Below n x → HasValue (sub f x (of_int f (pos (num x / den x)))) false (num x % den x) (den x)
rest-exact f n nan t N h = absurd h
rest-exact f n (inf s) t N h = absurd h
rest-exact f n (fin true m e) t N h = absurd h
rest-exact f n (fin false m e) t N h =
    let a = m * up e in
    let c = down e in
    let k = a / c in
    let K : k ≤ 2 ^ prec f = le_trans (le_of_lt ((div-lt_iff_lt-mul (down_pos e)).1 h)) N in
    let is : sub f (fin false m e) (of_int f (pos k)) ≡ round f false (a * 1 - k * c) (c * 1) =
    sub-values f (fin false m e) (of_int f (pos k)) a c k 1 (down_pos e) (zero-lt-suc 0) (refl, refl) (line-value f k K)
    (le_trans (div-mul-le_self a c) (le_of_eq (sym (mul-one a)))) in
    subst (λ (z : Float). HasValue z false (a % c) c)
    (sym (is ∙ round_same f false (a * 1 - k * c) (c * 1) (a % c) c (mul-pos (down_pos e) (zero-lt-suc 0)) (down_pos e) (rest-same a c)))
    (rest-round f m e t)
