-- Laws of ICC.1's order of the nodes, for any sizes, by induction over the inks.
-- Assumes nothing.
use Prim.Native.Nat.{ℕ, zero, suc, ◌+◌, ◌*◌, ◌/◌, ◌%◌, ◌≤◌, ◌<◌}
use mathlib.Core.Path.{◌≡◌, refl, sym, ap, ◌∙◌, subst}
use mathlib.Core.Bool.{true, false, true≢false}
use mathlib.Core.List.{List, [], ◌∷◌, reverse}
use native.Mathlib.Nat.{le_refl, mul-one, mul-add, mul_assoc, mul_comm, suc-mul, mul-suc, mul-zero, mul-le-mul_left, mul-le-mul_right, mod-eq_of_lt, div-eq_of_lt, zero-add, add-mul-mod_self_left, add-mul-div_left, suc_inj, mod-lt, div-lt_iff_lt-mul, div-add-mod}
use native.Mathlib.Decide.{dec_lt}
use native.Mathlib.Omega.{arith}
use lib.Ieee.Positive.{first_pos}
use lib.Dec.{ltb}
use lib.ListN.{length, get_or, take, drop, length-reverse}
use lib.Seq.{drop-cons, take-length, drop-length, length-take-le}
use borrow.Author.Tests.{ltb-true, lt-ltb, le-ltb}
use Rattle.lists.specs.Lists.{last_first, product}
use Rattle.lists.proofs.Lists.{and-true, and_left, and_right, and-not, reverse-next}
use Rattle.layout.specs.Order.{index, Within, strided, Steps, node_at, in_grid}

-- ---- strides give the order

pub strided-index : (strides gs ks : List ℕ) (s : ℕ) → Steps strides gs s → length ks ≡ length gs → strided strides ks ≡ s * index gs ks
unfolding Steps strided index
strided-index strides [] [] s h e = sym (mul-zero s)
strided-index strides [] (k ∷ ks) s h e = absurd (omega arith)
strided-index strides (g ∷ gs) [] s h e = absurd (omega arith)
strided-index strides (g ∷ gs) (k ∷ ks) s h e =
    let same : length ks ≡ length gs = suc_inj e in
    let rest : strided strides ks ≡ s * g * index gs ks = strided-index strides gs ks (s * g) h.1 same in
    let x = index gs ks in
    rw (same, h.0, rest) (omega (arith, mul_comm k s, mul_assoc s g x, mul-add s k (g * x)))

-- ICC.1's strides: the stride of an ink is c times the product of the sizes after it. `used` lists the sizes first ink first.
module _ (used strides : List ℕ) (c : ℕ) (after : (i : ℕ) → i < length used → get_or strides i 0 ≡ c * product (drop (suc i) used)) where
  -- of the first j inks
  steps_first : (j : ℕ) → j ≤ length used → Steps strides (reverse (take j used)) (c * product (drop j used))
  unfolding Steps product
  steps_first zero h = tt
  steps_first (suc j) h =
      let g = get_or used j 0 in
      let rest = product (drop (suc j) used) in
      let next : c * product (drop j used) ≡ c * rest * g =
      ap (λ (l : List ℕ). c * product l) (drop-cons used j 0 h) ∙ ap (λ (x : ℕ). c * x) (mul_comm g rest) ∙ sym (mul_assoc c rest g) in
      let len : length (reverse (take j used)) ≡ j = length-reverse (take j used) ∙ length-take-le j used (omega arith) in
      rw (reverse-next used j h) (
        ap (λ (k : ℕ). get_or strides k 0) len ∙ after j h,
        subst (Steps strides (reverse (take j used))) next (steps_first j (omega arith)),
      )

  pub steps-after : Steps strides (reverse used) c
  unfolding product
  steps-after =
      subst (λ (l : List ℕ). Steps strides (reverse l) c) (take-length used)
      (subst (Steps strides (reverse (take (length used) used))) (ap (λ (l : List ℕ). c * product l) (drop-length used) ∙ mul-one c) (steps_first (length used) (le_refl (length used))))

-- the stride of ink i, counted from 0, which has p inks after it: that of the last ink, times those inks' sizes
pub steps-at : (strides gs : List ℕ) (s p i : ℕ) → Steps strides gs s → i + suc p ≡ length gs → get_or strides i 0 ≡ s * product (take p gs)
unfolding Steps product
steps-at strides [] s p i h e = absurd (omega arith)
steps-at strides (g ∷ gs) s zero i h e = let last : i ≡ length gs = omega arith in rw last (h.0 ∙ sym (mul-one s))
steps-at strides (g ∷ gs) s (suc p) i h e = steps-at strides gs (s * g) p i h.1 (omega arith) ∙ mul_assoc s g (product (take p gs))

-- ---- nodes and numbers are one to one

low : (g k i : ℕ) → k < g → k ≡ (k + g * i) % g
low g k i h = sym (add-mul-mod_self_left k g i ∙ mod-eq_of_lt h)

high : (g k i : ℕ) → k < g → i ≡ (k + g * i) / g
high g k i h = sym (add-mul-div_left k i (omega arith) ∙ ap (λ (x : ℕ). x + i) (div-eq_of_lt h) ∙ zero-add i)

-- a node of a grid has a number below the number of nodes
pub index_below : (gs ks : List ℕ) → Within gs ks → index gs ks < product gs
unfolding Within index product
index_below [] [] w = omega arith
index_below [] (k ∷ ks) w = absurd w
index_below (g ∷ gs) [] w = absurd w
index_below (g ∷ gs) (k ∷ ks) w =
    let line = w.0 in
    let more = mul-le-mul_left g (index_below gs ks w.1) in
    omega (arith, mul-suc g (index gs ks))

-- a node's m entries stand in the table
pub entries-within : (gs ks : List ℕ) (m : ℕ) → Within gs ks → index gs ks * m + m ≤ product gs * m
entries-within gs ks m w =
    let more = mul-le-mul_right m (index_below gs ks w) in
    omega (arith, suc-mul (index gs ks) m)

pub within-length : (gs ks : List ℕ) → Within gs ks → length ks ≡ length gs
unfolding Within
within-length [] [] w = refl
within-length [] (k ∷ ks) w = absurd w
within-length (g ∷ gs) [] w = absurd w
within-length (g ∷ gs) (k ∷ ks) w = ap suc (within-length gs ks w.1)

pub index-injective : (gs ks js : List ℕ) → Within gs ks → Within gs js → index gs ks ≡ index gs js → ks ≡ js
unfolding Within index
index-injective [] [] [] w v e = refl
index-injective [] [] (j ∷ js) w v e = absurd v
index-injective [] (k ∷ ks) js w v e = absurd w
index-injective (g ∷ gs) [] js w v e = absurd w
index-injective (g ∷ gs) (k ∷ ks) [] w v e = absurd v
index-injective (g ∷ gs) (k ∷ ks) (j ∷ js) w v e =
    let head : k ≡ j = low g k (index gs ks) w.0 ∙ ap (λ (x : ℕ). x % g) e ∙ sym (low g j (index gs js) v.0) in
    let rest : ks ≡ js = index-injective gs ks js w.1 v.1 (high g k (index gs ks) w.0 ∙ ap (λ (x : ℕ). x / g) e ∙ sym (high g j (index gs js) v.0)) in
    cc

-- each number below the number of nodes is that of a node
pub node-within : (gs : List ℕ) (i : ℕ) → i < product gs → Within gs (node_at gs i)
unfolding Within product node_at
node-within [] i h = tt
node-within (g ∷ gs) i h =
    let some : 0 < g = first_pos g (product gs) (omega arith) in
    let turned : i < product gs * g = omega (arith, mul_comm g (product gs)) in
    (mod-lt i some, node-within gs (i / g) ((div-lt_iff_lt-mul some).1 turned))

pub node-number : (gs : List ℕ) (i : ℕ) → i < product gs → index gs (node_at gs i) ≡ i
unfolding index product node_at
node-number [] i h = omega arith
node-number (g ∷ gs) i h =
    let some : 0 < g = first_pos g (product gs) (omega arith) in
    let turned : i < product gs * g = omega (arith, mul_comm g (product gs)) in
    rw (node-number gs (i / g) ((div-lt_iff_lt-mul some).1 turned)) (omega (arith, div-add-mod i g))

-- the node with a node's number is that node
pub node-back : (gs ks : List ℕ) → Within gs ks → node_at gs (index gs ks) ≡ ks
node-back gs ks w =
    let below = index_below gs ks w in
    index-injective gs (node_at gs (index gs ks)) ks (node-within gs (index gs ks) below) w (node-number gs (index gs ks) below)

-- ---- the test

pub in-grid-within : (gs ks : List ℕ) → in_grid gs ks ≡ true → Within gs ks
unfolding in_grid Within
in-grid-within [] [] h = tt
in-grid-within [] (k ∷ ks) h = absurd (let no : ◌≡◌ {A = ℕ} 0 1 = cc in omega arith)
in-grid-within (g ∷ gs) [] h = absurd (let no : ◌≡◌ {A = ℕ} 0 1 = cc in omega arith)
in-grid-within (g ∷ gs) (k ∷ ks) h =
    (ltb-true k g (and_left (ltb k g) (in_grid gs ks) h), in-grid-within gs ks (and_right (ltb k g) (in_grid gs ks) h))

pub within-in-grid : (gs ks : List ℕ) → Within gs ks → in_grid gs ks ≡ true
unfolding in_grid Within
within-in-grid [] [] w = refl
within-in-grid [] (k ∷ ks) w = absurd w
within-in-grid (g ∷ gs) [] w = absurd w
within-in-grid (g ∷ gs) (k ∷ ks) w = and-true (ltb k g) (in_grid gs ks) (lt-ltb k g w.0) (within-in-grid gs ks w.1)

-- of n inks, first ink first: each coordinate is below its ink's size
pub in-grid-all : (sizes ks : List ℕ) (n : ℕ) → ((i : ℕ) → i < n → get_or ks i 0 < get_or sizes i 0) → in_grid (last_first n sizes) (last_first n ks) ≡ true
unfolding in_grid last_first
in-grid-all sizes ks zero h = refl
in-grid-all sizes ks (suc n) h = and-true _ _ (lt-ltb _ _ (h n (le_refl (suc n)))) (in-grid-all sizes ks n (λ i l. h i (omega arith)))

-- and where one is not, the node is outside
pub in-grid-fails : (sizes ks : List ℕ) (n i : ℕ) → i < n → get_or sizes i 0 ≤ get_or ks i 0 → in_grid (last_first n sizes) (last_first n ks) ≡ false
unfolding in_grid last_first
in-grid-fails sizes ks zero i l h = absurd (omega arith)
in-grid-fails sizes ks (suc n) i l h =
    elim (dec_lt i n) [
      | yes below ↦ and-not (ltb (get_or ks n 0) (get_or sizes n 0)) _ (in-grid-fails sizes ks n i below h)
      | no last ↦ let same : i ≡ n = omega arith in rw (sym same, le-ltb _ _ h)
    ]

-- so in a grid each coordinate is below its ink's size
pub in-grid-at : (sizes ks : List ℕ) (n i : ℕ) → in_grid (last_first n sizes) (last_first n ks) ≡ true → i < n → get_or ks i 0 < get_or sizes i 0
in-grid-at sizes ks n i inside l =
    elim (dec_lt (get_or ks i 0) (get_or sizes i 0)) [
      | yes below ↦ below
      | no past ↦ absurd (true≢false (sym inside ∙ in-grid-fails sizes ks n i l (omega arith)))
    ]
