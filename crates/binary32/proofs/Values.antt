-- Floats with a clear sign, +0 included, in either format, as exact fractions. `HasValue x s a c`, of `lib.Ieee.Exact`, says that x is finite, has the sign s and is a / c in size.
-- Comparisons: `lt-is`, `le_is`, as one of fractions. Arithmetic: `mul-values`, `add-values`, `sub-values`, `div-values`, the exact fraction rounded once.
-- Values: `line-value`, a whole number up to 2 ^ prec is one; `revalue`, another fraction of the same size; `value-unique`, a number with its sign is written in one way.
-- Assumes nothing.
use mathlib.Core.Path.{◌≡◌, refl, sym, ap, ◌∙◌, subst}
use Prim.Native.Nat.{ℕ, zero, suc, ◌+◌, ◌-◌, ◌*◌, ◌/◌, ◌^◌, ◌≤◌, ◌<◌}
use native.Mathlib.Nat.{le_of_lt, le_of_eq, lt_of_not-le, eq-or-lt_of_le, add-mul, mul-sub, zero-mul, mul_comm, mul_right_comm, mul-mul-mul_comm, mul-pos, eq_of_mul-eq-mul_right, zero-lt-suc, lt_irrefl}
use native.Mathlib.Decide.{dec_le}
use mathlib.Core.Bool.{Bool, true, false, not, ◌&&◌, ◌||◌, cond, true≢false}
use mathlib.Core.Logic.{inl, inr}
use lib.Dec.{T, leb, ltb, eqb}
use lib.IntN.{ℤ, pos}
use lib.Ieee.{Float, nan, inf, fin, Format, prec, low, up, down, round, mul, add, sub, div, sum, lt, le, of_int, fits, size, top, hid, to_bits, of_bits}
use lib.Ieee.Fits.{down_pos}
use lib.Ieee.Exact.{HasValue}
use lib.Ieee.Back.{round_whole}
use lib.Ieee.Bits.{of_bits-to_bits}
use lib.Ieee.Nearest.{div_same}
use lib.Ieee.Order.{transfer}
use lib.Ieee.Scale.{round_same}
use borrow.Author.Tests.{lt-ltb, le-ltb, le-leb, lt-leb, eq-eqb, ne_eqb}

-- two values with clear signs, a / c and b / d, as they are written
module _ (a c b d : ℕ) (P : Float → Float → Type 0) where
  as_written : ((m : ℕ) (e : ℤ) (n : ℕ) (g : ℤ) → m * up e * c ≡ a * down e → n * up g * d ≡ b * down g → P (fin false m e) (fin false n g))
      → (x y : Float) → HasValue x false a c → HasValue y false b d → P x y
  as_written h nan y p q = absurd p
  as_written h (inf s) y p q = absurd p
  as_written h (fin true m e) y p q = absurd (true≢false p.0)
  as_written h (fin false m e) nan p q = absurd q
  as_written h (fin false m e) (inf t) p q = absurd q
  as_written h (fin false m e) (fin true n g) p q = absurd (true≢false q.0)
  as_written h (fin false m e) (fin false n g) p q = h m e n g p.1 q.1

-- ---- comparisons
-- an order that implies another, both ways, is the same test
pub same-ltb : (x y a b : ℕ) → (y ≤ x → b ≤ a) → (b ≤ a → y ≤ x) → ltb x y ≡ ltb a b
same-ltb x y a b f g = elim (dec_le y x) [
  | yes h ↦ le-ltb x y h ∙ sym (le-ltb a b (f h))
  | no h ↦ lt-ltb x y (lt_of_not-le h) ∙ sym (lt-ltb a b (lt_of_not-le (λ (z : b ≤ a). h (g z))))
]

-- the test for ≤ is that for < the other way round, failed
leb-not : (x y : ℕ) → leb y x ≡ not (ltb x y)
leb-not x y = elim (dec_le y x) [
  | yes h ↦ le-leb y x h ∙ sym (ap not (le-ltb x y h))
  | no h ↦ lt-leb y x (lt_of_not-le h) ∙ sym (ap not (lt-ltb x y (lt_of_not-le h)))
]

pub same-leb : (x y a b : ℕ) → ltb x y ≡ ltb a b → leb y x ≡ leb b a
same-leb x y a b e = leb-not x y ∙ ap not e ∙ sym (leb-not a b)

-- x / de is a / c and y / dd is b / d
cross : (x y de dd a b c d : ℕ) → 0 < de → 0 < dd → 0 < c → 0 < d → x * c ≡ a * de → y * d ≡ b * dd → ltb (x * dd) (y * de) ≡ ltb (a * d) (b * c)
cross x y de dd a b c d E D C D' p q =
    same-ltb (x * dd) (y * de) (a * d) (b * c) (transfer b a d c y x dd de D E (sym q) (sym p)) (transfer y x dd de b a d c D' C q p)

-- `le` of two finite values with clear signs, as it computes
le-num : (a b : ℕ) → (ltb a b || (eqb a b && true)) ≡ leb a b
le-num a b = elim (dec_le a b) [
  | yes h ↦ elim (eq-or-lt_of_le h) [
    | inl e ↦ simp (le-ltb a b (le_of_eq (sym e)), eq-eqb a b e, le-leb a b h)
    | inr l ↦ simp (lt-ltb a b l, le-leb a b h)
  ]
  | no h ↦ simp (le-ltb a b (le_of_lt (lt_of_not-le h)), ne_eqb a b (λ (e : a ≡ b). h (le_of_eq e)), lt-leb a b (lt_of_not-le h))
]

module _ (x y : Float) (a c b d : ℕ) (C : 0 < c) (D : 0 < d) (p : HasValue x false a c) (q : HasValue y false b d) where
  pub lt-is : lt x y ≡ ltb (a * d) (b * c)
  unfolding lt
  lt-is =
      as_written a c b d (λ (x y : Float). lt x y ≡ ltb (a * d) (b * c))
      (λ m e n g p q. cross (m * up e) (n * up g) (down e) (down g) a b c d (down_pos e) (down_pos g) C D p q) x y p q

  pub le_is : le x y ≡ leb (a * d) (b * c)
  unfolding le
  le_is =
      as_written a c b d (λ (x y : Float). le x y ≡ leb (a * d) (b * c))
      (λ m e n g p q. le-num (m * up e * down g) (n * up g * down e)
      ∙ same-leb (n * up g * down e) (m * up e * down g) (b * c) (a * d)
      (cross (n * up g) (m * up e) (down g) (down e) b a d c (down_pos g) (down_pos e) D C q p)) x y p q

-- ---- arithmetic: the exact fraction, rounded once
-- x / e is a / c, brought over the common denominator with b / d, which y / g is
over-left : (x e a c g d : ℕ) → x * c ≡ a * e → x * g * (c * d) ≡ a * d * (e * g)
over-left x e a c g d p = mul-mul-mul_comm x g c d ∙ ap (λ (z : ℕ). z * (g * d)) p ∙ ap (λ (z : ℕ). a * e * z) (mul_comm g d) ∙ mul-mul-mul_comm a e d g

over-right : (y g b d e c : ℕ) → y * d ≡ b * g → y * e * (c * d) ≡ b * c * (e * g)
over-right y g b d e c q = ap (λ (z : ℕ). y * e * z) (mul_comm c d) ∙ over-left y g b d e c q ∙ ap (λ (z : ℕ). b * c * z) (mul_comm g e)

sub-mul : (a b k : ℕ) → (a - b) * k ≡ a * k - b * k
sub-mul a b k = mul_comm (a - b) k ∙ mul-sub k a b ∙ ap (λ (z : ℕ). z - k * b) (mul_comm k a) ∙ ap (λ (z : ℕ). a * k - z) (mul_comm k b)

-- x / e is a / c and y / g is b / d: a quotient
quotient : (x e a c y g b d : ℕ) → x * c ≡ a * e → y * d ≡ b * g → x * g * (c * b) ≡ a * d * (y * e)
quotient x e a c y g b d p q =
    mul-mul-mul_comm x g c b ∙ ap (λ (z : ℕ). z * (g * b)) p ∙ ap (λ (z : ℕ). a * e * z) (mul_comm g b ∙ sym q ∙ mul_comm y d) ∙ mul-mul-mul_comm a e d y ∙ ap (λ (z : ℕ). a * d * z) (mul_comm e y)

-- what is above 0 as one fraction is so as another
not-zero : (y d b g : ℕ) → 0 < b → 0 < g → y * d ≡ b * g → 0 < y
not-zero zero d b g B G e = absurd (lt_irrefl 0 (subst (λ (k : ℕ). 0 < k) (sym e ∙ zero-mul d) (mul-pos B G)))
not-zero (suc y) d b g B G e = zero-lt-suc y

-- a difference that is not negative
difference : (f : Format) (a b c : ℕ) → b ≤ a → sum f false a true b c ≡ round f false (a - b) c
unfolding sum
difference f a b c h = simp (le-ltb a b h)

module _ (f : Format) (x y : Float) (a c b d : ℕ) (C : 0 < c) (D : 0 < d) (p : HasValue x false a c) (q : HasValue y false b d) where
  pub mul-values : mul f x y ≡ round f false (a * b) (c * d)
  unfolding mul
  mul-values =
      as_written a c b d (λ (x y : Float). mul f x y ≡ round f false (a * b) (c * d))
      (λ m e n g p q. round_same f false (m * up e * (n * up g)) (down e * down g) (a * b) (c * d) (mul-pos (down_pos e) (down_pos g)) (mul-pos C D)
      (mul-mul-mul_comm (m * up e) (n * up g) c d ∙ ap (λ (z : ℕ). z * (n * up g * d)) p ∙ ap (λ (z : ℕ). a * down e * z) q ∙ mul-mul-mul_comm a (down e) b (down g))) x y p q

  pub add-values : add f x y ≡ round f false (a * d + b * c) (c * d)
  unfolding add sum
  add-values =
      as_written a c b d (λ (x y : Float). add f x y ≡ round f false (a * d + b * c) (c * d))
      (λ m e n g p q. round_same f false (m * up e * down g + n * up g * down e) (down e * down g) (a * d + b * c) (c * d) (mul-pos (down_pos e) (down_pos g)) (mul-pos C D)
      (add-mul (m * up e * down g) (n * up g * down e) (c * d)
      ∙ ap (λ (z : ℕ). z + n * up g * down e * (c * d)) (over-left (m * up e) (down e) a c (down g) d p)
      ∙ ap (λ (z : ℕ). a * d * (down e * down g) + z) (over-right (n * up g) (down g) b d (down e) c q)
      ∙ sym (add-mul (a * d) (b * c) (down e * down g)))) x y p q

  pub sub-values : b * c ≤ a * d → sub f x y ≡ round f false (a * d - b * c) (c * d)
  unfolding sub
  sub-values h =
      as_written a c b d (λ (x y : Float). sub f x y ≡ round f false (a * d - b * c) (c * d))
      (λ m e n g p q. difference f (m * up e * down g) (n * up g * down e) (down e * down g) (transfer (n * up g) (m * up e) (down g) (down e) b a d c D C q p h)
      ∙ round_same f false (m * up e * down g - n * up g * down e) (down e * down g) (a * d - b * c) (c * d) (mul-pos (down_pos e) (down_pos g)) (mul-pos C D)
      (sub-mul (m * up e * down g) (n * up g * down e) (c * d)
      ∙ ap (λ (z : ℕ). z - n * up g * down e * (c * d)) (over-left (m * up e) (down e) a c (down g) d p)
      ∙ ap (λ (z : ℕ). a * d * (down e * down g) - z) (over-right (n * up g) (down g) b d (down e) c q)
      ∙ sym (sub-mul (a * d) (b * c) (down e * down g)))) x y p q

  pub div-values : 0 < b → div f x y ≡ round f false (a * d) (c * b)
  unfolding div
  div-values B =
      as_written a c b d (λ (x y : Float). div f x y ≡ round f false (a * d) (c * b))
      (λ m e n g p q. let some : 0 < n * up g = not-zero (n * up g) d b (down g) B (down_pos g) q in
      (simp (ne_eqb n 0 (λ (z : n ≡ 0). lt_irrefl 0 (rw (zero-mul (up g)) at (subst (λ (k : ℕ). 0 < k * up g) z some)))))
      ∙ round_same f false (m * up e * down g) (n * up g * down e) (a * d) (c * b) (mul-pos some (down_pos e)) (mul-pos C B)
      (quotient (m * up e) (down e) a c (n * up g) (down g) b d p q)) x y p q

-- ---- values
pub line-value : (f : Format) (n : ℕ) → n ≤ 2 ^ prec f → HasValue (of_int f (pos n)) false n 1
unfolding of_int
line-value f n h = round_whole f false n h

-- another fraction of the same size
pub revalue : (x : Float) (a c b d : ℕ) → 0 < c → a * d ≡ b * c → HasValue x false a c → HasValue x false b d
revalue nan a c b d C h v = v
revalue (inf t) a c b d C h v = v
revalue (fin t m e) a c b d C h v = (
  v.0,
  eq_of_mul-eq-mul_right c C (m * up e * d) (b * down e)
      (mul_right_comm (m * up e) d c ∙ ap (λ (z : ℕ). z * d) v.1 ∙ mul_right_comm a (down e) d ∙ ap (λ (z : ℕ). z * down e) h ∙ mul_right_comm b c (down e)),
)

-- the pattern of a sign and a magnitude of n units
abbrev pattern : Format → Bool → ℕ → ℕ
pattern f s n = cond s (top f) 0 + (size n - prec f) * hid f + n / 2 ^ (size n - prec f)

to_bits-value : (f : Format) (x : Float) (s : Bool) (a c : ℕ) → 0 < c → HasValue x s a c → to_bits f x ≡ pattern f s (a * 2 ^ low f / c)
unfolding to_bits
to_bits-value f nan s a c C v = absurd v
to_bits-value f (inf t) s a c C v = absurd v
to_bits-value f (fin t m e) s a c C v =
    ap (λ (b : Bool). pattern f b (m * up e * 2 ^ low f / down e)) v.0
    ∙ ap (λ (n : ℕ). pattern f s n)
    (div_same (m * up e * 2 ^ low f) (down e) (a * 2 ^ low f) c (down_pos e) C
    (mul_right_comm (m * up e) (2 ^ low f) c ∙ ap (λ (z : ℕ). z * 2 ^ low f) v.1 ∙ mul_right_comm a (down e) (2 ^ low f)))

-- a number with its sign is written in one way
pub value-unique : (f : Format) (x y : Float) (s : Bool) (a c : ℕ) → 0 < c → T (fits f x) → T (fits f y) → HasValue x s a c → HasValue y s a c → x ≡ y
value-unique f x y s a c C p q v w =
    sym (of_bits-to_bits f x p) ∙ ap (of_bits f) (to_bits-value f x s a c C v ∙ sym (to_bits-value f y s a c C w)) ∙ of_bits-to_bits f y q

pub zero-value : (f : Format) (x : Float) (c : ℕ) → 0 < c → T (fits f x) → HasValue x false 0 c → x ≡ fin false 0 (pos 0)
unfolding fits
zero-value f x c C h v = value-unique f x (fin false 0 (pos 0)) false 0 c C h tt v (refl, zero-mul c)
