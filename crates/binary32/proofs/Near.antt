-- The error law: a sum, difference or product of binary32 values that is exactly of size below 4 has a finite rounded result,
-- off by at most 2 ^ -23. It is said in units of the smallest value (`Units`). Assumes nothing.
use mathlib.Core.Path.{◌≡◌, sym, ap, ◌∙◌, subst}
use Prim.Native.Nat.{ℕ, ◌+◌, ◌-◌, ◌*◌, ◌^◌, ◌≤◌, ◌<◌}
use native.Mathlib.Nat.{le_of_lt, lt_of_lt_of_le, mul-mul-mul_comm, mul-pos, mul-le-mul_right, mul-lt-mul_of_pos_right, lt_of_mul-lt-mul_right, le_of_mul-le-mul_right}
use native.Mathlib.Omega.{arith}
use mathlib.Core.Bool.{Bool, true, false, not, cond}
use lib.Dec.{T, ltb, ltb→lt, nltb→le, lit≤}
use lib.Ieee.{Float, nan, inf, fin, binary32, unlike, up, down, neg, round, sum, add, sub, mul}
use lib.Ieee.Exact.{HasValue, units_val}
use lib.Ieee.Fits.{round_is, round-fits, down_pos}
use lib.Ieee.Order.{drop, kept}
use lib.Ieee.Positive.{num}
use lib.Ieee.Scale.{grid}
use Rattle.binary32.proofs.Errors.{grid-off}
use Rattle.binary32.proofs.Units.{U, E, mag, negative, plus, less, Number, mag-exact, common-l, common-r, less-units, apart, value-finite, value-sign, value-mag, neg-number, neg-plus, neg-less}

-- ---- `round`: the result of a / c, where a / c in units is Q / K
pub record Rounded (r : Float) (s : Bool) (K Q : ℕ) : Type 0 where
  pub number : Number r
  pub sign : negative r ≡ s
  pub above : mag r * K ≤ Q + E * K
  pub below : Q ≤ mag r * K + E * K

-- g / 1 is within e of n / c, so of Q / K
cancelled : (g c K Q n e : ℕ) → 0 < c → n * K ≡ Q * c → 2 * (g * c) ≤ 2 * n + 2 * e * c → 2 * n ≤ 2 * (g * c) + 2 * e * c → (g * K ≤ Q + e * K) × (Q ≤ g * K + e * K)
cancelled g c K Q n e C h a b =
    let a' : g * c ≤ n + e * c = omega arith in
    let b' : n ≤ g * c + e * c = omega arith in
    (le_of_mul-le-mul_right (omega (arith, mul-le-mul_right K a')) C, le_of_mul-le-mul_right (omega (arith, mul-le-mul_right K b')) C)

-- n / c is below 4 where Q / K is
below-four : (n c K Q u : ℕ) → 0 < c → n * K ≡ Q * c → Q < 4 * (u * K) → n < 4 * u * c
below-four n c K Q u C h l = lt_of_mul-lt-mul_right K (omega (arith, mul-lt-mul_of_pos_right l C))

no_overflow : (g c n : ℕ) → 0 < c → n < 4 * U * c → 2 * (g * c) ≤ 2 * n + 2 * E * c → g < 2 ^ 277
no_overflow g c n C h a = lt_of_lt_of_le (lt_of_mul-lt-mul_right c (omega (arith, a, h))) small
  where
    small : 4 * U + E ≤ 2 ^ 277
    small = unfold U E in lit≤ tt

pub round-near : (s : Bool) (a c K Q : ℕ) → 0 < c → a * U * K ≡ Q * c → Q < 4 * (U * K) → Rounded (round binary32 s a c) s K Q
round-near s a c K Q C h l =
    let r = round binary32 s a c in
    let g = grid binary32 a c in
    let four : a * U < 4 * U * c = below-four (a * U) c K Q U C h l in
    let off = rough four in
    let val : HasValue r s g (2 ^ 149) =
    subst (λ (z : Float). HasValue z s g (2 ^ 149)) (sym (round_is binary32 s a c)) (units_val binary32 s (kept 24 (a * 2 ^ 149) c) (drop 24 (a * 2 ^ 149) c) (no_overflow g c (a * U) C four off.0)) in
    let fin = cancelled g c K Q (a * U) E C h off.0 off.1 in
    let m : mag r ≡ g = value-mag r s g val in
    record {
      number = record { is_finite = value-finite r s g (2 ^ 149) val; is-fit = round-fits binary32 s a c };
      sign = value-sign r s g (2 ^ 149) val;
      above = subst (λ (z : ℕ). z * K ≤ Q + E * K) (sym m) fin.0;
      below = subst (λ (z : ℕ). Q ≤ z * K + E * K) (sym m) fin.1;
    }
  where
    rough : a * U < 4 * U * c → (2 * (grid binary32 a c * c) ≤ 2 * (a * U) + 2 * E * c) × (2 * (a * U) ≤ 2 * (grid binary32 a c * c) + 2 * E * c)
    rough h = unfold U E in grid-off binary32 a c 2 C (unfold U in h)

-- ---- r is p - n, in units of 1 / K of the smallest value, but for an error of 2 ^ -23
pub record Near (K : ℕ) (r : Float) (p n : ℕ) : Type 0 where
  pub number : Number r
  pub above : plus r * K + n ≤ p + less r * K + E * K
  pub below : p + less r * K ≤ plus r * K + n + E * K

-- a rounded result of size Q with the sign of p - n, where Q is the distance of p and n
near_of : (r : Float) (s : Bool) (K Q p n : ℕ) → Rounded r s K Q → cond s (n ≡ p + Q) (p ≡ n + Q) → Near K r p n
near_of r true K Q p n R e =
    let a : plus r ≡ 0 = ap (λ (b : Bool). cond b 0 (mag r)) R.sign in
    let b : less r ≡ mag r = ap (λ (b : Bool). cond b (mag r) 0) R.sign in
    record { number = R.number; above = simp (a, b) (omega (arith, R.below)); below = simp (a, b) (omega (arith, R.above)) }
near_of r false K Q p n R e =
    let a : plus r ≡ mag r = ap (λ (b : Bool). cond b 0 (mag r)) R.sign in
    let b : less r ≡ 0 = ap (λ (b : Bool). cond b (mag r) 0) R.sign in
    record { number = R.number; above = simp (a, b) (omega (arith, R.above)); below = simp (a, b) (omega (arith, R.below)) }

-- ---- the sum
gap : (a b c M N d Q : ℕ) → a * U ≡ M * c → b * U ≡ N * c → b ≡ a + d → N ≡ M + Q → d * U * 1 ≡ Q * c
gap a b c M N d Q h k e f = omega (arith, ap (λ (x : ℕ). x * U) e, ap (λ (x : ℕ). x * c) f)

-- the difference b / c - a / c for a ≤ b, with either sign
gap-near : (s : Bool) (a b c M N : ℕ) → 0 < c → a * U ≡ M * c → b * U ≡ N * c → a ≤ b → N < M + 4 * U → (N ≡ M + (N - M)) × Rounded (round binary32 s (b - a) c) s 1 (N - M)
gap-near s a b c M N C h k l small =
    let e = apart M N (less-units a b c M N C h k l) in
    (e, round-near s (b - a) c 1 (N - M) C (gap a b c M N (b - a) (N - M) h k (apart a b l) e) (omega arith))

sum_near : (s : Bool) (a : ℕ) (t : Bool) (b c M N : ℕ) → 0 < c → a * U ≡ M * c → b * U ≡ N * c
    → cond s 0 M + cond t 0 N < cond s M 0 + cond t N 0 + 4 * U → cond s M 0 + cond t N 0 < cond s 0 M + cond t 0 N + 4 * U
    → Near 1 (sum binary32 s a t b c) (cond s 0 M + cond t 0 N) (cond s M 0 + cond t N 0)
unfolding sum
sum_near true a true b c M N C h k u v = near_of (round binary32 true (a + b) c) true 1 (M + N) (0 + 0) (M + N) (round-near true (a + b) c 1 (M + N) C (omega arith) (omega arith)) (omega arith)
sum_near false a false b c M N C h k u v = near_of (round binary32 false (a + b) c) false 1 (M + N) (M + N) (0 + 0) (round-near false (a + b) c 1 (M + N) C (omega arith) (omega arith)) (omega arith)
sum_near true a false b c M N C h k u v = go (ltb a b) (ltb b a) (ltb→lt a b) (nltb→le a b) (nltb→le b a)
  where
    go : (x y : Bool) → (T x → a < b) → (T (not x) → b ≤ a) → (T (not y) → a ≤ b) → Near 1 (cond x (round binary32 false (b - a) c) (round binary32 y (a - b) c)) (0 + N) (M + 0)
    go true y l m o =
        let g = gap-near false a b c M N C h k (le_of_lt (l tt)) (omega arith) in
        near_of (round binary32 false (b - a) c) false 1 (N - M) (0 + N) (M + 0) g.1 (omega (arith, g.0))
    go false true l m o =
        let g = gap-near true b a c N M C k h (m tt) (omega arith) in
        near_of (round binary32 true (a - b) c) true 1 (M - N) (0 + N) (M + 0) g.1 (omega (arith, g.0))
    go false false l m o =
        let g = gap-near false b a c N M C k h (m tt) (omega arith) in
        near_of (round binary32 false (a - b) c) false 1 (M - N) (0 + N) (M + 0) g.1 (omega (arith, g.0, less-units a b c M N C h k (o tt)))
sum_near false a true b c M N C h k u v = go (ltb a b) (ltb→lt a b) (nltb→le a b)
  where
    go : (x : Bool) → (T x → a < b) → (T (not x) → b ≤ a) → Near 1 (cond x (round binary32 true (b - a) c) (round binary32 false (a - b) c)) (M + 0) (0 + N)
    go true l m =
        let g = gap-near true a b c M N C h k (le_of_lt (l tt)) (omega arith) in
        near_of (round binary32 true (b - a) c) true 1 (N - M) (M + 0) (0 + N) g.1 (omega (arith, g.0))
    go false l m =
        let g = gap-near false b a c N M C k h (m tt) (omega arith) in
        near_of (round binary32 false (a - b) c) false 1 (M - N) (M + 0) (0 + N) g.1 (omega (arith, g.0))

pub add-near : (x y : Float) → Number x → Number y → plus x + plus y < less x + less y + 4 * U → less x + less y < plus x + plus y + 4 * U
    → Near 1 (add binary32 x y) (plus x + plus y) (less x + less y)
unfolding add
add-near nan y X Y u v = absurd X.is_finite
add-near (inf s) y X Y u v = absurd X.is_finite
add-near (fin s m e) nan X Y u v = absurd Y.is_finite
add-near (fin s m e) (inf t) X Y u v = absurd Y.is_finite
add-near (fin s m e) (fin t n d) X Y u v =
    let x = fin s m e in
    let y = fin t n d in
    sum_near s (m * up e * down d) t (n * up d * down e) (down e * down d) (mag x) (mag y) (mul-pos (down_pos e) (down_pos d)) (common-l x y X) (common-r x y Y) u v

pub sub-near : (x y : Float) → Number x → Number y → plus x + less y < less x + plus y + 4 * U → less x + plus y < plus x + less y + 4 * U
    → Near 1 (sub binary32 x y) (plus x + less y) (less x + plus y)
unfolding sub
sub-near x y X Y u v =
    let P = neg-plus y Y in
    let L = neg-less y Y in
    rw (P, L) at (add-near x (neg y) X (neg-number y Y) (rw (P, L) u) (rw (P, L) v))

-- ---- the product
product : (a b d e U M N : ℕ) → M * d ≡ a * U → N * e ≡ b * U → a * b * U * U ≡ M * N * (d * e)
product a b d e U M N h k = sym (mul-mul-mul_comm M N d e ∙ ap (λ (x : ℕ). x * (N * e)) h ∙ ap (λ (x : ℕ). a * U * x) k ∙ omega arith)

signed_product : (s t : Bool) (a c M N : ℕ) → 0 < c → a * U * U ≡ M * N * c → M * N < 4 * (U * U)
    → Near U (round binary32 (unlike s t) a c) (cond s 0 M * cond t 0 N + cond s M 0 * cond t N 0) (cond s 0 M * cond t N 0 + cond s M 0 * cond t 0 N)
signed_product true true a c M N C h u = near_of (round binary32 false a c) false U (M * N) (0 * 0 + M * N) (0 * N + M * 0) (round-near false a c U (M * N) C h u) (omega arith)
signed_product true false a c M N C h u = near_of (round binary32 true a c) true U (M * N) (0 * N + M * 0) (0 * 0 + M * N) (round-near true a c U (M * N) C h u) (omega arith)
signed_product false true a c M N C h u = near_of (round binary32 true a c) true U (M * N) (M * 0 + 0 * N) (M * N + 0 * 0) (round-near true a c U (M * N) C h u) (omega arith)
signed_product false false a c M N C h u = near_of (round binary32 false a c) false U (M * N) (M * N + 0 * 0) (M * 0 + 0 * N) (round-near false a c U (M * N) C h u) (omega arith)

pub mul-near : (x y : Float) → Number x → Number y → mag x * mag y < 4 * (U * U)
    → Near U (mul binary32 x y) (plus x * plus y + less x * less y) (plus x * less y + less x * plus y)
unfolding mul
mul-near nan y X Y u = absurd X.is_finite
mul-near (inf s) y X Y u = absurd X.is_finite
mul-near (fin s m e) nan X Y u = absurd Y.is_finite
mul-near (fin s m e) (inf t) X Y u = absurd Y.is_finite
mul-near (fin s m e) (fin t n d) X Y u =
    let x = fin s m e in
    let y = fin t n d in
    signed_product s t (num x * num y) (down e * down d) (mag x) (mag y) (mul-pos (down_pos e) (down_pos d)) (product (num x) (num y) (down e) (down d) U (mag x) (mag y) (mag-exact x X) (mag-exact y Y)) u
