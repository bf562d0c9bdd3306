-- The blends of document 01, in binary32: every sum, difference and product is rounded once, in the order written. Definitions only.
use Rattle.std.specs.Prelude.{Bool, true, false, cond, Float}
use Rattle.std.specs.Float.{binary32}
use Rattle.std.specs.Float.Ieee.{add, sub, mul, le}
use Rattle.binary32.specs.Numbers.{one}

-- s + a * b
abbrev pub mlaf : Float → Float → Float → Float
mlaf s a b = add binary32 s (mul binary32 a b)

-- s - a * b
abbrev pub neg_mlaf : Float → Float → Float → Float
neg_mlaf s a b = sub binary32 s (mul binary32 a b)

-- a * b + c
abbrev pub fmla : Float → Float → Float → Float
fmla a b c = add binary32 (mul binary32 a b) c

-- (a - a * t) + b * t
abbrev pub lerp : Float → Float → Float → Float
lerp a b t = mlaf (neg_mlaf a a t) b t

-- one ink: a * (1 - w) + b * w, with 1 - w rounded first
abbrev pub along : Float → Float → Float → Float
along a b w = add binary32 (mul binary32 a (sub binary32 one w)) (mul binary32 b w)

-- two inks: along ink 1 (weight v) at both nodes of ink 2, then along ink 2 (weight w). The corner `c i j` is at ink 1's node i and ink 2's node j, true for the upper one.
abbrev pub square : (Bool → Bool → Float) → Float → Float → Float
square c v w = along (along (c false false) (c true false) v) (along (c false true) (c true true) v) w

-- c0, then the term of ink 1, of ink 2 and of ink 3: always in this order
abbrev pub terms : Float → Float → Float → Float → Float → Float → Float → Float
terms c0 d1 d2 d3 x y z = mlaf (mlaf (mlaf c0 d1 x) d2 y) d3 z

-- from p to q, rounded
abbrev pub rise : Float → Float → Float
rise p q = sub binary32 q p

-- Three inks with weights x, y, z. The corner `c i j k` is at the lower (false) or upper (true) node of each ink. Each case goes from c 0 0 0
-- to c 1 1 1 one ink at a time, the ink of the largest weight first. The tests are x ≥ y, y ≥ z and x ≥ z.
abbrev pub six : (Bool → Bool → Bool → Float) → Float → Float → Float → Bool → Bool → Bool → Float
six c x y z xy yz xz =
    let o = c false false false in
    let a = c true false false in
    let b = c false true false in
    let d = c false false true in
    let ab = c true true false in
    let ad = c true false true in
    let bd = c false true true in
    let abd = c true true true in
    cond xy
    (cond yz (terms o (rise o a) (rise a ab) (rise ab abd) x y z)
    (cond xz (terms o (rise o a) (rise ad abd) (rise a ad) x y z)
    (terms o (rise d ad) (rise ad abd) (rise o d) x y z)))
    (cond xz (terms o (rise b ab) (rise o b) (rise ab abd) x y z)
    (cond yz (terms o (rise bd abd) (rise o b) (rise b bd) x y z)
    (terms o (rise bd abd) (rise d bd) (rise o d) x y z)))

abbrev pub tetra : (Bool → Bool → Bool → Float) → Float → Float → Float → Float
tetra c x y z = six c x y z (le y x) (le z y) (le z x)

-- eight corners by name, 0 for the lower and 1 for the upper node of ink 1, 2 and 3: the one at i, j, k
abbrev pub eight : Float → Float → Float → Float → Float → Float → Float → Float → Bool → Bool → Bool → Float
eight c000 c100 c010 c110 c001 c101 c011 c111 i j k = cond k (cond j (cond i c111 c011) (cond i c101 c001)) (cond j (cond i c110 c010) (cond i c100 c000))
