-- Bytes as a number: `big-next`, one byte more; `big-below`, how large it is. Assumes nothing.
use Prim.Native.Nat.{ℕ, suc, ◌+◌, ◌*◌, ◌^◌, ◌<◌}
use mathlib.Core.Path.{◌≡◌, sym, ap, ◌∙◌}
use mathlib.Core.List.{List, [], ◌∷◌, ◌++◌}
use native.Mathlib.Nat.{pow-suc, mul_assoc, zero-lt-suc, mul-le-mul_right}
use native.Mathlib.Numerals.{add-one}
use native.Mathlib.Omega.{arith}
use lib.ListN.{length, get_or, length-append}
use Rattle.lists.specs.Bytes.{big_endian}

next : (b P B L c : ℕ) → L ≡ P * 256 → B ≡ c → b * L + B ≡ b * P * 256 + c
next b P B L c l e = ap (λ (z : ℕ). b * z + B) l ∙ ap (λ (z : ℕ). b * (P * 256) + z) e ∙ ap (λ (z : ℕ). z + c) (sym (mul_assoc b P 256))

pub big-next : (bs : List ℕ) (b : ℕ) → big_endian (bs ++ (b ∷ [])) ≡ big_endian bs * 256 + b
unfolding big_endian
big-next [] b = omega arith
big-next (x ∷ bs) b =
    let l : 256 ^ length (bs ++ (b ∷ [])) ≡ 256 ^ length bs * 256 =
    ap (λ (k : ℕ). 256 ^ k) (length-append bs (b ∷ []) ∙ add-one (length bs)) ∙ pow-suc 256 (length bs) in
    next x (256 ^ length bs) (big_endian (bs ++ (b ∷ []))) (256 ^ length (bs ++ (b ∷ []))) (big_endian bs * 256 + b) l (big-next bs b) ∙ omega arith

below : (b P B : ℕ) → b < 256 → B < P → b * P + B < P * 256
below b P B h l = omega (arith, mul-le-mul_right P h)

pub big-below : (bs : List ℕ) → ((i : ℕ) → get_or bs i 0 < 256) → big_endian bs < 256 ^ length bs
unfolding big_endian
big-below [] h = zero-lt-suc 0
big-below (b ∷ bs) h = rw (pow-suc 256 (length bs)) (below b (256 ^ length bs) (big_endian bs) (h 0) (big-below bs (λ i. h (suc i))))
