-- `UpTo n x` and `Below n x`: how they come from the value of x and from a comparison, and what follows. `round-up_to`, `round-from`: what rounds from at most, or at least,
-- a whole number that the format holds stays so. `up_to-share`, `below-share`: what is up to 1 lies from 0 to 1; `unit-share`: so does a unit; `share-number`: and is no NaN.
-- Assumes nothing.
use mathlib.Core.Path.{◌≡◌, refl, sym, subst}
use Prim.Native.Nat.{ℕ, zero, suc, ◌+◌, ◌*◌, ◌^◌, ◌≤◌, ◌<◌}
use native.Mathlib.Nat.{le_trans, le_of_eq, le_of_lt, lt_of_le_of_lt, lt_of_lt_of_le, zero-lt-suc, mul-one, mul-pos, mul_right_comm, mul-le-mul_right, mul-lt-mul_of_pos_right, lt_of_mul-lt-mul_right, le_of_mul-le-mul_right}
use native.Mathlib.Omega.{arith}
use mathlib.Core.Bool.{Bool, true, false, not, cond, true≢false}
use lib.Dec.{T, ltb, leb→le}
use lib.Ieee.{Float, nan, inf, fin, Format, binary32, prec, emax, low, down, odd, units, round, le, fits, is_nan}
use lib.Ieee.Fits.{down_pos, round_is, round-fits}
use lib.Ieee.Exact.{HasValue}
use lib.Ieee.Back.{round_whole}
use lib.Ieee.Order.{round_mono}
use lib.Ieee.Positive.{num, den, den_pos}
use Rattle.binary32.specs.Numbers.{of_whole, unit_of}
use Rattle.binary32.specs.Range.{UpTo, Below, Within, Share}
use Rattle.binary32.proofs.Values.{le_is, div-values, line-value}

-- ---- from a value, and back
pub below-value : (x : Float) (n a c : ℕ) → HasValue x false a c → a < n * c → Below n x
below-value nan n a c v h = v
below-value (inf s) n a c v h = v
below-value (fin true m e) n a c v h = absurd (true≢false v.0)
below-value (fin false m e) n a c v h =
    lt_of_mul-lt-mul_right c
    (lt_of_le_of_lt (le_of_eq v.1) (lt_of_lt_of_le (mul-lt-mul_of_pos_right h (down_pos e)) (le_of_eq (mul_right_comm n c (down e)))))

pub up_to-value : (x : Float) (n a c : ℕ) → 0 < c → HasValue x false a c → a ≤ n * c → UpTo n x
up_to-value nan n a c C v h = v
up_to-value (inf s) n a c C v h = v
up_to-value (fin true m e) n a c C v h = absurd (true≢false v.0)
up_to-value (fin false m e) n a c C v h =
    le_of_mul-le-mul_right (le_trans (le_of_eq v.1) (le_trans (mul-le-mul_right (down e) h) (le_of_eq (mul_right_comm n c (down e))))) C

pub up_to-own : (n : ℕ) (x : Float) → UpTo n x → HasValue x false (num x) (den x) × (num x ≤ n * den x)
up_to-own n nan h = absurd h
up_to-own n (inf s) h = absurd h
up_to-own n (fin true m e) h = absurd h
up_to-own n (fin false m e) h = ((refl, refl), h)

pub below-own : (n : ℕ) (x : Float) → Below n x → HasValue x false (num x) (den x) × (num x < n * den x)
below-own n nan h = absurd h
below-own n (inf s) h = absurd h
below-own n (fin true m e) h = absurd h
below-own n (fin false m e) h = ((refl, refl), h)

-- ---- from one another
pub below-up_to : (n : ℕ) (x : Float) → Below n x → UpTo n x
below-up_to n x h = let o = below-own n x h in up_to-value x n (num x) (den x) (den_pos x) o.0 (le_of_lt o.1)

pub up_to-below : (n k : ℕ) (x : Float) → n < k → UpTo n x → Below k x
up_to-below n k x l h = let o = up_to-own n x h in below-value x k (num x) (den x) o.0 (lt_of_le_of_lt o.1 (mul-lt-mul_of_pos_right l (den_pos x)))

-- a value up to 1 is a share
pub up_to-share : (x : Float) → T (fits binary32 x) → UpTo 1 x → Share x
up_to-share x F h = record { is-fit = F; within = within x h }
  where
    within : (x : Float) → UpTo 1 x → Within 0 x
    within nan h = h
    within (inf s) h = h
    within (fin true m e) h = absurd h
    within (fin false m e) h = omega (arith, mul-le-mul_right (2 ^ 23) h)

pub below-share : (x : Float) → T (fits binary32 x) → Below 1 x → Share x
below-share x F h = up_to-share x F (below-up_to 1 x h)

-- ---- from a comparison
-- the sign is clear, and it is no NaN
abbrev pub clear : Float → Bool
clear nan = false
clear (inf s) = not s
clear (fin s m e) = not s

-- what is no more than a finite value is finite
own-of-le : (x y : Float) (n : ℕ) → T (clear x) → HasValue y false n 1 → T (le x y) → HasValue x false (num x) (den x)
own-of-le nan y n s v h = absurd s
own-of-le (inf true) y n s v h = absurd s
own-of-le (inf false) nan n s v h = absurd v
own-of-le (inf false) (inf t) n s v h = absurd v
own-of-le (inf false) (fin t k g) n s v h = unfold le in absurd h
own-of-le (fin true m e) y n s v h = absurd s
own-of-le (fin false m e) y n s v h = (refl, refl)

-- a value with a clear sign, by a comparison with the whole number n
up_to-of-le : (x y : Float) (n : ℕ) → T (clear x) → HasValue y false n 1 → T (le x y) → UpTo n x
up_to-of-le x y n s v h =
    let o = own-of-le x y n s v h in
    up_to-value x n (num x) (den x) (den_pos x) o
    (le_trans (le_of_eq (sym (mul-one (num x)))) (leb→le (num x * 1) (n * den x) (subst T (le_is x y (num x) (den x) n 1 (den_pos x) (zero-lt-suc 0) o v) h)))

-- ---- of a rounded fraction
odd-clear : (d q k l : ℕ) → T (clear (odd d false q k l))
unfolding odd
odd-clear d zero k l = tt
odd-clear d (suc q) k l = tt

units-clear : (f : Format) (q k : ℕ) → T (clear (units f false q k))
unfolding units
units-clear f q k = go (ltb (q * 2 ^ k) (2 ^ (low f + suc (emax f))))
  where
    go : (b : Bool) → T (clear (cond b (odd (suc (prec f)) false q k (low f)) (inf false)))
    go true = odd-clear (suc (prec f)) q k (low f)
    go false = tt

pub round-clear : (f : Format) (a b : ℕ) → T (clear (round f false a b))
round-clear f a b = subst (λ (z : Float). T (clear z)) (sym (round_is f false a b)) (units-clear f _ _)

pub round-up_to : (f : Format) (a b n : ℕ) → 0 < b → n ≤ 2 ^ prec f → a ≤ n * b → UpTo n (round f false a b)
round-up_to f a b n B N h =
    up_to-of-le (round f false a b) (round f false n 1) n (round-clear f a b) (round_whole f false n N)
    (round_mono f a b n 1 B (zero-lt-suc 0) (le_trans (le_of_eq (mul-one a)) h))

pub round-from : (f : Format) (a b n k : ℕ) → 0 < b → n ≤ 2 ^ prec f → n * b ≤ a → Below k (round f false a b) → n * den (round f false a b) ≤ num (round f false a b)
round-from f a b n k B N h r =
    let z = round f false a b in
    le_trans (leb→le (n * den z) (num z * 1)
    (subst T (le_is (round f false n 1) z n 1 (num z) (den z) (zero-lt-suc 0) (den_pos z) (round_whole f false n N) (below-own k z r).0)
    (round_mono f n 1 a b (zero-lt-suc 0) B (le_trans h (le_of_eq (sym (mul-one a)))))))
    (le_of_eq (mul-one (num z)))

-- ---- a share is a number
pub share-number : (x : Float) → Share x → is_nan x ≡ false
unfolding is_nan
share-number nan s = absurd s.within
share-number (inf b) s = refl
share-number (fin b m e) s = refl

-- ---- v of `most` lies from 0 to 1
pub unit-share : (most v : ℕ) → 0 < most → most ≤ 2 ^ prec binary32 → v ≤ most → Share (unit_of most v)
unfolding unit_of
unit-share most v M P h =
    let exact = div-values binary32 (of_whole v) (of_whole most) v 1 most 1 (zero-lt-suc 0) (zero-lt-suc 0)
    (line-value binary32 v (le_trans h P)) (line-value binary32 most P) M in
    subst Share (sym exact) (up_to-share _ (round-fits binary32 false (v * 1) (1 * most))
    (round-up_to binary32 (v * 1) (1 * most) 1 (mul-pos (zero-lt-suc 0) M) (lt_of_lt_of_le M P) (omega arith)))
