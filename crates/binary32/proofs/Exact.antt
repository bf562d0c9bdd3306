-- Where nothing is rounded, in either format. `fits-says`: what it means for a significand and an exponent to fit. `round_keeps`: a significand of few enough digits
-- with an exponent in range is kept; so `round-self`, a value that fits rounds to itself, and `round-zero`. Assumes nothing.
use mathlib.Core.Path.{◌≡◌, refl, sym, ap, ◌∙◌}
use Prim.Native.Nat.{ℕ, zero, suc, ◌+◌, ◌-◌, ◌*◌, ◌%◌, ◌^◌, ◌≤◌, ◌<◌}
use native.Mathlib.Nat.{le_trans, le_of_eq, le_of_suc-le-suc, lt_of_not-le, lt_of_le_of_lt, lt_of_lt_of_le, not-le_of_lt, zero-lt-suc, mul-one, one-mul, zero-mul, mul_comm, mul_assoc, mul-pos, mul-le-mul_right, mul-lt-mul_of_pos_right}
use native.Mathlib.Omega.{arith}
use mathlib.Core.Bool.{Bool, ◌&&◌}
use lib.Dec.{T, leb, ltb, eqb, ltb→lt, leb→le, eqb→eq}
use lib.Pow.{pow_pos, pow_mono, pow-lt, pow-add, shl_lt}
use lib.IntN.{ℤ, pos, negsuc}
use lib.Ieee.{fin, Format, prec, emax, low, up, down, round, fits}
use lib.Ieee.Digits.{back}
use lib.Ieee.Fits.{up_pos, down_pos, and_l, and_r, reach, round-fits}
use lib.Ieee.Exact.{HasValue, round_exact}
use lib.Ieee.Scale.{round_same}
use Rattle.binary32.proofs.Values.{value-unique}

-- what `fits` says of a significand and an exponent: few enough digits, at least the smallest value, and below the overflow
pub fits-says : (f : Format) (s : Bool) (m : ℕ) (e : ℤ) → T (fits f (fin s m e)) → (m < 2 ^ prec f) × (down e ≤ 2 ^ low f) × (m * up e < 2 ^ suc (emax f) * down e)
unfolding fits
fits-says f s zero e t = (
  pow_pos (prec f),
  le_trans (le_trans (le_of_eq (sym (one-mul (down e)))) (mul-le-mul_right (down e) (up_pos e))) (le_trans (le_of_eq (eqb→eq (up e * down e) 1 t)) (pow_pos (low f))),
  lt_of_le_of_lt (le_of_eq (zero-mul (up e))) (mul-pos (pow_pos (suc (emax f))) (down_pos e)),
)
fits-says f s (suc m) e t =
    let a = eqb (suc m % 2) 1 in
    let b = ltb (suc m) (2 ^ prec f) in
    let c = leb (down e) (2 ^ low f) in
    let d = ltb (suc m * up e) (2 ^ suc (emax f) * down e) in
    let u : T (a && b && c) = and_l (a && b && c) d t in (
      ltb→lt (suc m) (2 ^ prec f) (and_r a b (and_l (a && b) c u)),
      leb→le (down e) (2 ^ low f) (and_r (a && b) c u),
      ltb→lt (suc m * up e) (2 ^ suc (emax f) * down e) (and_r (a && b && c) d t),
    )

pow_le_back : (i j : ℕ) → 2 ^ i ≤ 2 ^ j → i ≤ j
pow_le_back i j h = le_of_suc-le-suc (lt_of_not-le (λ (g : suc j ≤ i). not-le_of_lt (pow-lt g) h))

-- a negative exponent in range divides the smallest value
pub low-divides : (f : Format) (i : ℕ) → 2 ^ suc i ≤ 2 ^ low f → 2 ^ low f ≡ 2 ^ (low f - suc i) * 2 ^ suc i
low-divides f i h = ap (λ (z : ℕ). 2 ^ z) (sym (back (low f) (suc i) (pow_le_back (suc i) (low f) h))) ∙ pow-add 2 (low f - suc i) (suc i)

-- q * 2 ^ e is not rounded where q has no more digits than the format keeps, and e is in its range
pub round_keeps : (f : Format) (s : Bool) (q : ℕ) (e : ℤ) → q < 2 ^ prec f → down e ≤ 2 ^ low f → q * up e < 2 ^ suc (emax f) * down e → HasValue (round f s (q * up e) (down e)) s (q * up e) (down e)
round_keeps f s q (pos i) a b c =
    let l = low f in
    let E = suc (emax f) in
    let h : q * 2 ^ (i + l) ≡ q * 2 ^ i * 2 ^ l = ap (λ (z : ℕ). q * z) (pow-add 2 i l) ∙ sym (mul_assoc q (2 ^ i) (2 ^ l)) in
    round_exact f s (q * 2 ^ i) 1 q (i + l) (zero-lt-suc 0) a
    (lt_of_le_of_lt (le_of_eq h)
    (lt_of_lt_of_le (mul-lt-mul_of_pos_right (lt_of_lt_of_le c (le_of_eq (mul-one (2 ^ E)))) (pow_pos l)) (le_of_eq (mul_comm (2 ^ E) (2 ^ l) ∙ sym (pow-add 2 l E)))))
    (sym h ∙ sym (mul-one (q * 2 ^ (i + l))))
round_keeps f s q (negsuc i) a b c =
    let l = low f - suc i in
    round_exact f s (q * 1) (2 ^ suc i) q l (pow_pos (suc i)) a
    (lt_of_lt_of_le (shl_lt (prec f) l a) (pow_mono (room (prec f) (suc i) (low f) (suc (emax f)) (reach f))))
    (ap (λ (z : ℕ). z * 2 ^ low f) (mul-one q) ∙ ap (λ (z : ℕ). q * z) (low-divides f i b) ∙ sym (mul_assoc q (2 ^ l) (2 ^ suc i)))
  where
    room : (p j l q : ℕ) → p ≤ q → p + (l - j) ≤ l + q
    room p j l q h = omega arith

-- a value that the format holds rounds to itself
pub round-self : (f : Format) (s : Bool) (m : ℕ) (e : ℤ) → T (fits f (fin s m e)) → round f s (m * up e) (down e) ≡ fin s m e
round-self f s m e t =
    let w = fits-says f s m e t in
    value-unique f (round f s (m * up e) (down e)) (fin s m e) s (m * up e) (down e) (down_pos e) (round-fits f s (m * up e) (down e)) t (round_keeps f s m e w.0 w.1 w.2) (refl, refl)

-- a zero keeps its sign
pub round-zero : (f : Format) (s : Bool) (a c : ℕ) → a ≡ 0 → 0 < c → round f s a c ≡ fin s 0 (pos 0)
unfolding fits
round-zero f s a c e C = round_same f s a c (0 * 1) 1 C (zero-lt-suc 0) (omega (arith, ap (λ (z : ℕ). z * 1) e)) ∙ round-self f s 0 (pos 0) tt
