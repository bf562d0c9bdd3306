-- Pyramid, prism and trilinear as source document 001 has them, in binary32: every sum, difference and product is rounded once, in the order written.
-- dr, dg and db are the weights of red, green and blue. Definitions only.
use Rattle.std.specs.Prelude.{Bool, true, false, cond, ◌&&◌, Float}
use Rattle.std.specs.Float.{binary32}
use Rattle.std.specs.Float.Ieee.{add, sub, mul, lt, le}
use Rattle.binary32.specs.Blend.{mlaf, lerp, terms, rise}

-- something for each of the eight corners: at the lower (false) or upper (true) node of red, of green and of blue
abbrev pub Eight : Type 0 → Type 0
Eight A = Bool → Bool → Bool → A

-- a blend of eight corners by three weights
abbrev pub Blend : Type 0
Blend = Eight Float → Float → Float → Float → Float

-- f of the eight corners: the lower one, and then those that stand at the upper node of red, green, blue, red and green, red and blue, green and blue, all
abbrev pub named : {A B : Type 0} → (A → A → A → A → A → A → A → A → B) → Eight A → B
named f c =
    f (c false false false) (c true false false) (c false true false) (c false false true)
    (c true true false) (c true false true) (c false true true) (c true true true)

-- p - q - r + s, left to right
abbrev pub bend : Float → Float → Float → Float → Float
bend p q r s = add binary32 (sub binary32 (sub binary32 p q) r) s

-- The terms go blue, red, green, and then that of a product of two weights. First case dr > db and dg > db, second db > dr and dg > dr, third the rest.
abbrev pub pyramid : Blend
pyramid c dr dg db =
    named (λ low r g b rg rb gb rgb.
    cond (lt db dr && lt db dg) (mlaf (terms low (rise rg rgb) (rise low r) (rise low g) db dr dg) (bend low g r rg) (mul binary32 dr dg))
    (cond (lt dr db && lt dr dg) (mlaf (terms low (rise low b) (rise gb rgb) (rise low g) db dr dg) (bend low g b gb) (mul binary32 dg db))
    (mlaf (terms low (rise low b) (rise low r) (rise rb rgb) db dr dg) (bend low r b rb) (mul binary32 db dr)))) c

-- The terms go blue, red, green, and then those of dg * db and of dr * dg. First case db ≥ dr.
abbrev pub prism : Blend
prism c dr dg db =
    named (λ low r g b rg rb gb rgb.
    cond (le dr db)
    (mlaf (mlaf (terms low (rise low b) (rise b rb) (rise low g) db dr dg) (bend low g b gb) (mul binary32 dg db)) (bend b gb rb rgb) (mul binary32 dr dg))
    (mlaf (mlaf (terms low (rise r rb) (rise low r) (rise low g) db dr dg) (bend r rg rb rgb) (mul binary32 dg db)) (bend low g r rg) (mul binary32 dr dg))) c

-- along red at the four nodes of green and blue, then along green, then along blue: each step is (a - a·t) + b·t
abbrev pub trilinear : Blend
trilinear c dr dg db =
    let along-red : Bool → Bool → Float = λ j k. lerp (c false j k) (c true j k) dr in
    let along-green : Bool → Float = λ k. lerp (along-red false k) (along-red true k) dg in
    lerp (along-green false) (along-green true) db
