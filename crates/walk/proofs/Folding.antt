-- The law of the second engine: folding all corners by halves gives the answer above three inks, whatever the further inks are. Assumes nothing.
use Prim.Native.Nat.{ℕ, suc, ◌+◌, ◌*◌, ◌^◌, ◌/◌, ◌<◌}
use native.Mathlib.Omega.{arith}
use native.Mathlib.Nat.{pow-suc, mul-mod_left, mul-div_left, mul-add-div_right, mul-add-mod_self_right, zero-lt-suc}
use native.Mathlib.Numerals.{add-one}
use mathlib.Core.Path.{◌≡◌, ap, ap₂, sym, ◌∙◌}
use mathlib.Core.List.{List, [], ◌∷◌, ◌++◌}
use lib.Ieee.{Float}
use lib.ListN.{length, drop, length-append}
use lib.Seq.{drop-drop}
use lib.Dec.{eqb}
use Rattle.binary32.specs.Blend.{lerp}
use Rattle.cell.specs.declared.Cell.{Cell}
use Rattle.lookup.specs.Lookup.{node}
use Rattle.walk.specs.Walk.{above, distance, weights, halved, folded}

-- ---- the last of the weights

twice : (p u : ℕ) → p * 2 * u ≡ p * (u + u)
twice p u = omega arith

-- the size of the other weights' list, in units of two
size-next : (ws : List Float) (w : Float) (u : ℕ) → 2 ^ length (ws ++ (w ∷ [])) * u ≡ 2 ^ length ws * (u + u)
size-next ws w u = ap (λ (k : ℕ). 2 ^ k * u) (length-append ws (w ∷ []) ∙ add-one (length ws)) ∙ ap (λ (p : ℕ). p * u) (pow-suc 2 (length ws)) ∙ twice (2 ^ length ws) u

one_unit : (u : ℕ) → 2 ^ 0 * u ≡ u
one_unit u = omega arith

-- folding the other weights first, over units of two, and the last one between the two units
pub folded-last : (u : ℕ) (ws : List Float) (w : Float) (v : ℕ → Float) (i : ℕ)
    → folded u (ws ++ (w ∷ [])) v i ≡ lerp (folded (u + u) ws v i) (folded (u + u) ws v (i + u)) w
folded-last u [] w v i = ap (λ (s : ℕ). lerp (v i) (v (i + s)) w) (one_unit u)
folded-last u (x ∷ ws) w v i =
    folded-last u ws w (halved x (2 ^ length (ws ++ (w ∷ [])) * u) v) i
    ∙ ap (λ (s : ℕ). lerp (folded (u + u) ws (halved x s v) i) (folded (u + u) ws (halved x s v) (i + u)) w) (size-next ws w u)

-- ---- a corner at the last ink's lower node, and at its upper one

module _ (h : Cell) (hs : List Cell) (c : ℕ) (part : List Float) where
  lower-corner : drop (distance (h ∷ hs) (c * 2)) part ≡ drop (distance hs c) (drop h.x part)
  lower-corner =
      ap₂ (λ (r q : ℕ). drop (node h (eqb r 1) + distance hs q) part) (mul-mod_left c 2) (mul-div_left c {n = 2} (zero-lt-suc 1))
      ∙ sym (drop-drop (distance hs c) h.x part)

  half : (c * 2 + 1) / 2 ≡ c
  half = mul-add-div_right {m = 2} (zero-lt-suc 1) c 1 ∙ omega arith

  upper-corner : drop (distance (h ∷ hs) (c * 2 + 1)) part ≡ drop (distance hs c) (drop h.x_n part)
  upper-corner =
      ap₂ (λ (r q : ℕ). drop (node h (eqb r 1) + distance hs q) part) (mul-add-mod_self_right c 2 1) half
      ∙ sym (drop-drop (distance hs c) h.x_n part)

lower-place : (c u o : ℕ) → c * (u + u) + o ≡ c * 2 * u + o
lower-place c u o = omega arith

upper-place : (c u o : ℕ) → c * (u + u) + (o + u) ≡ (c * 2 + 1) * u + o
upper-place c u o = omega arith

-- ---- the law

double : (c n : ℕ) → c < 2 ^ n → (c * 2 < 2 ^ suc n) × (c * 2 + 1 < 2 ^ suc n)
double c n h = rw (pow-suc 2 n) (omega arith, omega arith)

-- in units of u: where entry c * u + o is the answer of three inks at corner c, the fold leaves at o the answer above three inks. Only that lane of each unit counts
pub folded-above : (three : List Float → Float) (hs : List Cell) (u o : ℕ) (v : ℕ → Float) (part : List Float)
    → ((c : ℕ) → c < 2 ^ length hs → v (c * u + o) ≡ three (drop (distance hs c) part))
    → folded u (weights hs) v o ≡ above three hs part
folded-above three [] u o v part is = ap v (omega arith) ∙ is 0 (zero-lt-suc 0)
folded-above three (h ∷ hs) u o v part is =
    folded-last u (weights hs) h.w v o
    ∙ ap₂ (λ (a b : Float). lerp a b h.w)
    (folded-above three hs (u + u) o v (drop h.x part) (λ c l. ap v (lower-place c u o) ∙ is (c * 2) (double c (length hs) l).0 ∙ ap three (lower-corner h hs c part)))
    (folded-above three hs (u + u) (o + u) v (drop h.x_n part) (λ c l. ap v (upper-place c u o) ∙ is (c * 2 + 1) (double c (length hs) l).1 ∙ ap three (upper-corner h hs c part)))

-- ---- only the entries of the list count

bound : (k m i : ℕ) (ws : List Float) → i < 2 ^ length ws * m → (i + 2 ^ length ws * m < 2 ^ suc (length ws) * m)
bound k m i ws h = rw (pow-suc 2 (length ws)) (omega arith)

pub folded-same : (m : ℕ) (ws : List Float) (v v' : ℕ → Float) → ((i : ℕ) → i < 2 ^ length ws * m → v i ≡ v' i) → (o : ℕ) → o < m → folded m ws v o ≡ folded m ws v' o
folded-same m [] v v' same o less = same o (omega arith)
folded-same m (w ∷ ws) v v' same o less =
    folded-same m ws (halved w (2 ^ length ws * m) v) (halved w (2 ^ length ws * m) v')
    (λ i h. ap₂ (λ (a b : Float). lerp a b w) (same i (lower i h)) (same (i + 2 ^ length ws * m) (bound 0 m i ws h)))
    o less
  where
    lower : (i : ℕ) → i < 2 ^ length ws * m → i < 2 ^ suc (length ws) * m
    lower i h = omega (arith, bound 0 m i ws h)
