-- Laws of the parts of a layout record: counts, places and strides.
-- Assumes nothing.
use mathlib.Core.Path.{◌≡◌, refl, sym, ◌∙◌, ap, subst}
use mathlib.Core.Bool.{true, cond}
use mathlib.Core.List.{List}
use Prim.Native.Nat.{ℕ, suc, ◌+◌, ◌-◌, ◌*◌, ◌^◌, ◌≤◌, ◌<◌}
use native.Mathlib.Nat.{le_refl, le_trans, mul-le-mul, mul_comm}
use native.Mathlib.Numerals.{add-one}
use native.Mathlib.Decide.{dec_le, dec_lt}
use native.Mathlib.Omega.{arith}
use lib.Arith.{lt_of_le-ne}
use lib.Dec.{T, ltb, leb, le→leb}
use lib.Ieee.{Float, nan, binary32, in_float, in_unsigned}
use lib.Ieee.Back.{unsigned_back}
use lib.ListN.{length, get_or, take, drop, set, replicate, length-take, drop_of_length-le}
use lib.Seq.{ext_get_or, get_or-take, length-take-le, drop-cons}
use borrow.Author.Tests.{leb-true, ltb-true, le-leb, lt-ltb, le-ltb}
use Rattle.binary32.specs.Numbers.{plus_zero, of_whole}
use Rattle.lists.specs.Lists.{tabulate, every, product}
use Rattle.layout.specs.Layout.{limit, is_count, place, places, stride}
use Rattle.lists.proofs.Lists.{and-true, and_left, and_right, every-at, length-tabulate, tabulate-same, set-tabulate, get_or-tabulate, product-drop-le}

pub count-from : (n : ℕ) → is_count n ≡ true → 1 ≤ n
unfolding is_count
count-from n h = leb-true 1 n (and_left (leb 1 n) (leb n 15) h)

pub count-to : (n : ℕ) → is_count n ≡ true → n ≤ 15
unfolding is_count
count-to n h = leb-true n 15 (and_right (leb 1 n) (leb n 15) h)

pub count-is : (n : ℕ) → 1 ≤ n → n ≤ 15 → is_count n ≡ true
unfolding is_count
count-is n from to = and-true (leb 1 n) (leb n 15) (le-leb 1 n from) (le-leb n 15 to)

-- ---- places

module _ {A : Type 0} (n : ℕ) (f : ℕ → A) (unused : A) where
  pub place-used : (i : ℕ) → i < n → place n f unused i ≡ f i
  place-used i h = simp (lt-ltb i n h)

  pub place-unused : (i : ℕ) → n ≤ i → place n f unused i ≡ unused
  place-unused i h = simp (le-ltb i n h)

  pub places-used : (i : ℕ) (d : A) → n ≤ 16 → i < n → get_or (places n f unused) i d ≡ f i
  places-used i d h l = get_or-tabulate 16 (place n f unused) i d (omega arith) ∙ place-used i l

  pub places-unused : (i : ℕ) (d : A) → i < 16 → n ≤ i → get_or (places n f unused) i d ≡ unused
  places-unused i d h l = get_or-tabulate 16 (place n f unused) i d h ∙ place-unused i l

  -- a list of sixteen with those entries is the places
  pub places-are : (xs : List A) (d : A) → length xs ≡ 16 → n ≤ 16 → ((i : ℕ) → i < n → get_or xs i d ≡ f i) → ((i : ℕ) → i < 16 → n ≤ i → get_or xs i d ≡ unused) → xs ≡ places n f unused
  places-are xs d sixteen few used rest =
      ext_get_or d xs (places n f unused) (sixteen ∙ sym (length-tabulate 16 (place n f unused))) (λ i h.
      elim (dec_lt i n) [
        | yes l ↦ used i l ∙ sym (places-used i d few l)
        | no g ↦ rest i (omega arith) (omega arith) ∙ sym (places-unused i d (omega arith) (omega arith))
      ])

  -- while the places are filled from the last ink down: those from ink i on are, those before it are not yet
  abbrev filling : ℕ → ℕ → A
  filling i j = cond (ltb j i) unused (place n f unused j)

  abbrev pub filled_from : ℕ → List A
  filled_from i = tabulate 16 (filling i)

  pub filled_none : filled_from n ≡ replicate 16 unused
  unfolding tabulate
  filled_none =
      tabulate-same 16 (filling n) (λ j. unused) (λ j h.
      elim (dec_lt j n) [
        | yes l ↦ simp (lt-ltb j n l)
        | no g ↦ let past : n ≤ j = omega arith in simp (le-ltb j n past)
      ])

  pub filled-all : filled_from 0 ≡ places n f unused
  unfolding tabulate
  filled-all = refl

  filled-store : (i : ℕ) → i < n → set (filled_from (i + 1)) i (f i) ≡ filled_from i
  filled-store i h =
      let at : filling i i ≡ f i = simp (le-ltb i i (le_refl i), lt-ltb i n h) in
      ap (set (filled_from (i + 1)) i) (sym at) ∙ set-tabulate 16 (filling (i + 1)) (filling i) i (λ j l other.
      elim (dec_lt j i) [
        | yes b ↦ simp (lt-ltb j i b, lt-ltb j (i + 1) (omega arith))
        | no g ↦ simp (le-ltb j i (omega arith), le-ltb j (i + 1) (rw add-one (lt_of_le-ne {i = i} {k = j} (omega arith) (λ e. other (sym e)))))
      ])

  -- the place of the ink before i is filled
  pub filled_next : (i : ℕ) → 0 < i → i ≤ n → set (filled_from i) (i - 1) (f (i - 1)) ≡ filled_from (i - 1)
  filled_next i some inks =
      let back : i ≡ i - 1 + 1 = omega arith in
      ap (λ (k : ℕ). set (filled_from k) (i - 1) (f (i - 1))) back ∙ filled-store (i - 1) (omega arith)

-- ---- sizes

module _ (sizes : List ℕ) (n : ℕ) where
  -- a place by its ink's size: only the first n sizes count
  pub places-taken : {A : Type 0} (f : ℕ → A) (unused : A) → places n (λ i. f (get_or sizes i 0)) unused ≡ places n (λ i. f (get_or (take n sizes) i 0)) unused
  places-taken f unused =
      tabulate-same 16 (place n (λ i. f (get_or sizes i 0)) unused) (place n (λ i. f (get_or (take n sizes) i 0)) unused) (λ i h.
      elim (dec_lt i n) [
        | yes l ↦ simp (lt-ltb i n l, get_or-take n sizes i 0 l)
        | no g ↦ let past : n ≤ i = omega arith in simp (le-ltb i n past)
      ])

  -- each of them is above 0
  pub above_at : n ≤ length sizes → every (ltb 0) (take n sizes) ≡ true → (i : ℕ) → i < n → 0 < get_or sizes i 0
  above_at few above i h =
      let at = every-at (ltb 0) (take n sizes) i above (omega (arith, length-take-le n sizes few)) in
      ltb-true 0 _ (subst (λ (g : ℕ). ltb 0 g ≡ true) (get_or-take n sizes i 0 h) at)

-- n sizes, read back from the record's row
pub sizes-back : (used : List ℕ) (n : ℕ) → length used ≡ n → n ≤ 16 → take n (places n (λ i. get_or used i 0) 0) ≡ used
sizes-back used n len few =
    let row = places n (λ i. get_or used i 0) 0 in
    let whole : length (take n row) ≡ n = length-take-le n row (omega (arith, length-tabulate 16 (place n (λ i. get_or used i 0) 0))) in
    ext_get_or 0 (take n row) used (whole ∙ sym len) (λ i h.
    let below : i < n = omega arith in
    get_or-take n row i 0 below ∙ places-used n (λ j. get_or used j 0) 0 i 0 few below)

-- ---- strides

-- the running product from the last ink down, once ink i is passed
abbrev pub running : List ℕ → ℕ → ℕ
running used i = product (drop i used)

pub running_none : (sizes : List ℕ) (n : ℕ) → running (take n sizes) n ≡ 1
unfolding product
running_none sizes n = ap product (drop_of_length-le (take n sizes) {i = n} (omega (arith, length-take n sizes)))

module _ (used : List ℕ) (i : ℕ) (some : 0 < i) where
  -- it is the stride of the ink before
  pub running-stride : running used i ≡ stride used (i - 1)
  running-stride = ap (running used) (let same : i ≡ suc (i - 1) = omega arith in same)

  pub running-next : i ≤ length used → running used (i - 1) ≡ running used i * get_or used (i - 1) 0
  unfolding product
  running-next inks =
      let same : suc (i - 1) ≡ i = omega arith in
      ap product (drop-cons used (i - 1) 0 (omega arith))
      ∙ ap (λ (k : ℕ). get_or used (i - 1) 0 * running used k) same
      ∙ mul_comm (get_or used (i - 1) 0) (running used i)

-- what holds from i on and at the place before holds from there on
pub from_less : {P : ℕ → Type 0} (n i : ℕ) → ((k : ℕ) → i ≤ k → k < n → P k) → P (i - 1) → (k : ℕ) → i - 1 ≤ k → k < n → P k
from_less {P} n i above here k h l =
    elim (dec_le i k) [
      | yes g ↦ above k g l
      | no g ↦ let same : i - 1 ≡ k = omega arith in subst P same here
    ]

-- a product of the last sizes, alone or times m, is within the limit where the total is
pub product-fits : (used : List ℕ) (i k m : ℕ) → every (ltb 0) used ≡ true → k ≤ m → product used * m ≤ limit → running used i * k ≤ limit
product-fits used i k m h km t = le_trans (mul-le-mul (product-drop-le used i h) km) t

-- ---- no scale is a NaN

pub zero-is-number : plus_zero ≡ nan → ⊥
zero-is-number e = let z : ◌≡◌ {A = ℕ} 0 1 = cc in omega arith

pub scale-is-number : (g : ℕ) → g < 256 → of_whole (g - 1) ≡ nan → ⊥
unfolding in_float in_unsigned
scale-is-number g h e =
    subst (λ (x : Float). T (in_unsigned binary32 8 x)) e
    (unsigned_back binary32 8 (g - 1) (le→leb (g - 1) (2 ^ 24) (omega arith)) (omega arith)).0
