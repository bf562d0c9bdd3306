-- The bound laws for `lerp` and for the blends of one and two inks: of values held to -k / 2 ^ 23 .. 1 + k / 2 ^ 23 they are held to k + 4 of those parts,
-- k + 5 and k + 10. Assumes nothing.
use mathlib.Core.Path.{◌≡◌, ap}
use Prim.Native.Nat.{ℕ, ◌+◌, ◌-◌, ◌*◌, ◌≤◌, ◌<◌}
use native.Mathlib.Nat.{mul-le-mul_left, mul-le-mul_right, le_of_mul-le-mul_right}
use native.Mathlib.Omega.{arith}
use mathlib.Core.Bool.{Bool, true, false}
use lib.Dec.{lit≤}
use lib.Ieee.{Float, binary32, add, sub, mul}
use Rattle.binary32.specs.Numbers.{one}
use Rattle.binary32.specs.Blend.{lerp, along, square}
use Rattle.binary32.proofs.Units.{U, E, U-is, U_pos, E_pos, mag, plus, less, apart, one_number}
use Rattle.binary32.proofs.Near.{add-near, sub-near, mul-near}
use Rattle.binary32.proofs.Held.{Held, held, size_below, shrunk, mul-weight}

-- r = s + q, s = a - p, p = a * t, q = b * t, each off by at most e, in units of which u are 1: r is at most B + 4 * e where a and b are at most B.
-- A letter with ⁺ less the same with ⁻ is the value, so the other bound is the same law with the two swapped.
mean-le : (u t w B e a⁺ a⁻ b⁺ b⁻ p⁺ p⁻ s⁺ s⁻ q⁺ q⁻ r⁺ r⁻ : ℕ) → 0 < u → u ≡ t + w → a⁺ ≤ B → b⁺ ≤ B
    → a⁺ * t + p⁻ * u ≤ p⁺ * u + a⁻ * t + e * u → s⁺ + (a⁻ + p⁺) ≤ a⁺ + p⁻ + s⁻ + e
    → q⁺ * u + b⁻ * t ≤ b⁺ * t + q⁻ * u + e * u → r⁺ + (s⁻ + q⁻) ≤ s⁺ + q⁺ + r⁻ + e → r⁺ ≤ r⁻ + (B + 4 * e)
mean-le u t w B e a⁺ a⁻ b⁺ b⁻ p⁺ p⁻ s⁺ s⁻ q⁺ q⁻ r⁺ r⁻ z split ha hb hp hs hq hr =
    le_of_mul-le-mul_right
    (omega (
      arith,
      hp,
      hq,
      mul-le-mul_right u hs,
      mul-le-mul_right u hr,
      mul-le-mul_right w ha,
      mul-le-mul_right t hb,
      ap (λ (x : ℕ). a⁺ * x) split,
      ap (λ (x : ℕ). a⁻ * x) split,
      ap (λ (x : ℕ). B * x) split,
    ))
    z

pub lerp-held : (k : ℕ) (a b t : Float) → k ≤ 1000000 → Held k a → Held k b → Held 0 t → Held (k + 4) (lerp a b t)
lerp-held k a b t small A B T =
    let p = mul binary32 a t in
    let q = mul binary32 b t in
    let s = sub binary32 a p in
    let r = add binary32 s q in
    let D : k * E ≤ 1000000 * E = mul-le-mul_right E small in
    let P = mul-weight a t A.number (omega (arith, A.top, D, U-is, E_pos)) (omega (arith, A.bottom, D, U-is, E_pos)) T in
    let Q = mul-weight b t B.number (omega (arith, B.top, D, U-is, E_pos)) (omega (arith, B.bottom, D, U-is, E_pos)) T in
    let S = sub-near a p A.number P.near.number
    (omega (arith, A.top, A.bottom, D, U-is, U_pos, E_pos, P.below)) (omega (arith, A.top, A.bottom, D, U-is, U_pos, E_pos, P.above)) in
    let R = add-near s q S.number Q.near.number
    (omega (arith, A.top, A.bottom, B.top, B.bottom, D, U-is, U_pos, E_pos, P.below, P.above, Q.above, Q.below, S.above, S.below))
    (omega (arith, A.top, A.bottom, B.top, B.bottom, D, U-is, U_pos, E_pos, P.below, P.above, Q.above, Q.below, S.above, S.below)) in
    let split = apart (plus t) U (omega (arith, T.top)) in
    held (k + 4) r R.number
    (omega (
      arith,
      mean-le U (plus t) (U - plus t) (U + k * E) E (plus a) (less a) (plus b) (less b) (plus p) (less p) (plus s) (less s) (plus q) (less q) (plus r) (less r)
          U_pos split A.top B.top P.near.below (omega (arith, S.above)) Q.near.above (omega (arith, R.above)),
    ))
    (omega (
      arith,
      mean-le U (plus t) (U - plus t) (k * E) E (less a) (plus a) (less b) (plus b) (less p) (plus p) (less s) (plus s) (less q) (plus q) (less r) (plus r)
          U_pos split A.bottom B.bottom (omega (arith, P.near.above)) (omega (arith, S.below)) (omega (arith, Q.near.below)) (omega (arith, R.below)),
    ))

-- ---- one ink
-- t is within e of v, which is 1 - w, and p within e of a * t; so p is within 3 * e of a * v
part-le : (u w v e a⁺ a⁻ t⁺ t⁻ p⁺ p⁻ : ℕ) → u ≡ w + v → a⁺ + a⁻ ≤ 2 * u → t⁺ + w ≤ u + t⁻ + e → u + t⁻ ≤ t⁺ + w + e
    → p⁺ * u + (a⁺ * t⁻ + a⁻ * t⁺) ≤ a⁺ * t⁺ + a⁻ * t⁻ + p⁻ * u + e * u → p⁺ * u + a⁻ * v ≤ a⁺ * v + p⁻ * u + 3 * e * u
part-le u w v e a⁺ a⁻ t⁺ t⁻ p⁺ p⁻ split size ht ht' hp =
    let h : t⁺ ≤ v + t⁻ + e = omega arith in
    let k : v + t⁻ ≤ t⁺ + e = omega arith in
    omega (arith, hp, mul-le-mul_left a⁺ h, mul-le-mul_left a⁻ k, mul-le-mul_right e size)

-- r = p + q, with p within 3 * e of a * v and q within e of b * w
along-le : (u w v B e a⁺ a⁻ b⁺ b⁻ p⁺ p⁻ q⁺ q⁻ r⁺ r⁻ : ℕ) → 0 < u → u ≡ w + v → a⁺ ≤ B → b⁺ ≤ B → p⁺ * u + a⁻ * v ≤ a⁺ * v + p⁻ * u + 3 * e * u
    → q⁺ * u + b⁻ * w ≤ b⁺ * w + q⁻ * u + e * u → r⁺ + (p⁻ + q⁻) ≤ p⁺ + q⁺ + r⁻ + e → r⁺ ≤ r⁻ + (B + 5 * e)
along-le u w v B e a⁺ a⁻ b⁺ b⁻ p⁺ p⁻ q⁺ q⁻ r⁺ r⁻ z split ha hb hp hq hr =
    le_of_mul-le-mul_right (omega (arith, hp, hq, mul-le-mul_right u hr, mul-le-mul_right v ha, mul-le-mul_right w hb, ap (λ (x : ℕ). B * x) split)) z

small-square : (a b u : ℕ) → 0 < u → a < 2 * u → b < 2 * u → a * b < 4 * (u * u)
small-square a b u z h k = omega (arith, mul-le-mul_right b h, mul-le-mul_right u k)

pub along-held : (k : ℕ) (a b w : Float) → k ≤ 1000000 → Held k a → Held k b → Held 0 w → Held (k + 5) (along a b w)
along-held k a b w small A B W =
    let t = sub binary32 one w in
    let p = mul binary32 a t in
    let q = mul binary32 b w in
    let r = add binary32 p q in
    let D : k * E ≤ 1000000 * E = mul-le-mul_right E small in
    let one⁺ : plus one ≡ U = omega arith in
    let T = sub-near one w one_number W.number (omega (arith, W.bottom, U_pos)) (omega (arith, W.top, U_pos)) in
    let P = mul-near a t A.number T.number
    (small-square (mag a) (mag t) U U_pos (size_below a (2 * U) A.number (omega (arith, A.top, D, U-is, E_pos)) (omega (arith, A.bottom, D, U-is, E_pos)))
    (size_below t (2 * U) T.number (omega (arith, T.above, W.bottom, U-is, E_pos)) (omega (arith, T.below, W.top, U-is, E_pos)))) in
    let Q = mul-weight b w B.number (omega (arith, B.top, D, U-is, E_pos)) (omega (arith, B.bottom, D, U-is, E_pos)) W in
    let size⁺ : plus a + less a ≤ 2 * U = omega (arith, A.top, A.bottom, D, U-is) in
    let split = apart (plus w) U (omega (arith, W.top)) in
    let ta : plus t + plus w ≤ U + less t + E = omega (arith, T.above, W.bottom) in
    let tb : U + less t ≤ plus t + plus w + E = omega (arith, T.below, W.bottom) in
    let pa = part-le U (plus w) (U - plus w) E (plus a) (less a) (plus t) (less t) (plus p) (less p) split size⁺ ta tb P.above in
    let pb = part-le U (plus w) (U - plus w) E (less a) (plus a) (plus t) (less t) (less p) (plus p) split (omega arith) ta tb (omega (arith, P.below)) in
    let p≤ = shrunk (plus p) (U - plus w) (less p) (plus a) U (3 * E) U_pos (omega (arith, split)) (omega (arith, pa)) in
    let p≥ = shrunk (less p) (U - plus w) (plus p) (less a) U (3 * E) U_pos (omega (arith, split)) (omega (arith, pb)) in
    let R = add-near p q P.number Q.near.number (omega (arith, p≤, Q.above, A.top, B.top, D, U-is, E_pos)) (omega (arith, p≥, Q.below, A.bottom, B.bottom, D, U-is, E_pos)) in
    held (k + 5) r R.number
    (omega (
      arith,
      along-le U (plus w) (U - plus w) (U + k * E) E (plus a) (less a) (plus b) (less b) (plus p) (less p) (plus q) (less q) (plus r) (less r)
          U_pos split A.top B.top pa Q.near.above (omega (arith, R.above)),
    ))
    (omega (
      arith,
      along-le U (plus w) (U - plus w) (k * E) E (less a) (plus a) (less b) (plus b) (less p) (plus p) (less q) (plus q) (less r) (plus r)
          U_pos split A.bottom B.bottom pb (omega (arith, Q.near.below)) (omega (arith, R.below)),
    ))

-- ---- two inks
pub square-held : (c : Bool → Bool → Float) (v w : Float) → ((i j : Bool) → Held 0 (c i j)) → Held 0 v → Held 0 w → Held 10 (square c v w)
square-held c v w C hv hw =
    along-held 5 (along (c false false) (c true false) v) (along (c false true) (c true true) v) w (lit≤ tt)
    (along-held 0 (c false false) (c true false) v (lit≤ tt) (C false false) (C true false) hv)
    (along-held 0 (c false true) (c true true) v (lit≤ tt) (C false true) (C true true) hv) hw
