-- Inks by their steps: split in two, the distances of their corners, their weights. Assumes nothing.
use Prim.Native.Nat.{ℕ, zero, suc, ◌+◌, ◌-◌, ◌*◌, ◌^◌, ◌/◌, ◌%◌, ◌<◌, ◌≤◌, max}
use native.Mathlib.Omega.{arith}
use native.Mathlib.Nat.{pow-suc, pow-le-pow_right, zero-add, suc-add, add-zero, zero-lt-suc}
use native.Mathlib.Decide.{dec_lt}
use mathlib.Core.Path.{◌≡◌, refl, ap, ap₂, sym, subst, ◌∙◌}
use mathlib.Core.Bool.{Bool, true, false}
use mathlib.Core.List.{List, [], ◌∷◌, ◌++◌}
use lib.Dec.{eqb}
use lib.Ieee.{Float}
use lib.ListN.{length, get_or, set, length-set}
use Rattle.lists.specs.Buffer.{written_from}
use Rattle.lists.proofs.Buffer.{length-written-from, written-from-next}
use Rattle.cell.specs.declared.Cell.{Cell}
use Rattle.lookup.specs.Lookup.{node}
use Rattle.lookup.specs.Places.{reach}
use Rattle.walk.proofs.Above.{reach-over}
use Rattle.walk.specs.declared.Axis.{Axis}
use Rattle.walk.specs.Steps.{step_cell, axis, cell_of, steps_at}
use Rattle.walk.specs.Walk.{distance, weights, weights_at}
use Rattle.walk.proofs.Blocks.{written-from-at, written-from-before}

module _ (axes : List Axis) where
  -- the first a of the inks, and those after them
  pub split : (first a k : ℕ) → steps_at axes first (k + a) ≡ steps_at axes (first + a) k ++ steps_at axes first a
  split first a zero = ap (steps_at axes first) (zero-add a)
  split first a (suc k) =
      ap (steps_at axes first) (suc-add k a)
      ∙ ap₂ (λ (i : ℕ) (cs : List Cell). cell_of (axis axes i) ∷ cs) (place first a k) (split first a k)
    where
      place : (f b j : ℕ) → f + (j + b) ≡ f + b + j
      place f b j = omega arith

  -- the first ink alone
  pub front : (first k : ℕ) → steps_at axes first (suc k) ≡ steps_at axes (suc first) k ++ (cell_of (axis axes first) ∷ [])
  front first k =
      ap (steps_at axes first) (one k)
      ∙ split first 1 k
      ∙ ap₂ (λ (f i : ℕ). steps_at axes f k ++ (cell_of (axis axes i) ∷ [])) (sym (one first)) (add-zero first)
    where
      one : (n : ℕ) → suc n ≡ n + 1
      one n = omega arith

  pub length-steps : (first k : ℕ) → length (steps_at axes first k) ≡ k
  length-steps first zero = refl
  length-steps first (suc k) = ap suc (length-steps first k)

weights-front : (hs : List Cell) (h : Cell) → weights (hs ++ (h ∷ [])) ≡ h.w ∷ weights hs
weights-front [] h = refl
weights-front (g ∷ hs) h = ap (λ (l : List Float). l ++ (g.w ∷ [])) (weights-front hs h)

pub weights-at : (axes : List Axis) (first k : ℕ) → weights (steps_at axes first k) ≡ weights_at axes first k
weights-at axes first zero = refl
weights-at axes first (suc k) =
    ap weights (front axes first k)
    ∙ weights-front (steps_at axes (suc first) k) (cell_of (axis axes first))
    ∙ ap (λ (l : List Float). (axis axes first).w ∷ l) (weights-at axes (suc first) k)

-- ---- distances

node-reach : (c : Cell) (b : Bool) → node c b ≤ max c.x c.x_n
node-reach c true = omega arith
node-reach c false = omega arith

pub distance-reach : (hs : List Cell) (c : ℕ) → distance hs c ≤ reach hs
distance-reach [] c = omega arith
distance-reach (h ∷ hs) c = omega (arith, node-reach h (eqb (c % 2) 1), distance-reach hs (c / 2))

halved-less : (c n : ℕ) → c < 2 ^ suc n → c / 2 < 2 ^ n
halved-less c n h = let e = pow-suc 2 n in omega (arith, e)

low_bit : (c : ℕ) → c < 1 → c ≡ 0
low_bit c h = omega arith

-- a first ink in front: its lower node, and its upper one
module _ (d : ℕ) (t : Float) where
  pub distance-low : (hs : List Cell) (c : ℕ) → c < 2 ^ length hs → distance (hs ++ (step_cell d t ∷ [])) c ≡ distance hs c
  distance-low [] c h = ap (distance (step_cell d t ∷ [])) (low_bit c h)
  distance-low (g ∷ hs) c h = ap (λ (r : ℕ). node g (eqb (c % 2) 1) + r) (distance-low hs (c / 2) (halved-less c (length hs) h))

  pub distance_high : (hs : List Cell) (c : ℕ) → c < 2 ^ length hs → distance (hs ++ (step_cell d t ∷ [])) (2 ^ length hs + c) ≡ distance hs c + d
  distance_high [] c h = ap (λ (e : ℕ). distance (step_cell d t ∷ []) (1 + e)) (low_bit c h) ∙ (omega arith)
  distance_high (g ∷ hs) c h =
      ap₂ (λ (r q : ℕ). node g (eqb r 1) + distance (hs ++ (step_cell d t ∷ [])) q) (rest (length hs) c) (half (length hs) c)
      ∙ ap (λ (r : ℕ). node g (eqb (c % 2) 1) + r) (distance_high hs (c / 2) (halved-less c (length hs) h))
      ∙ omega arith
    where
      rest : (n e : ℕ) → (2 ^ suc n + e) % 2 ≡ e % 2
      rest n e = let p = pow-suc 2 n in omega (arith, p)

      half : (n e : ℕ) → (2 ^ suc n + e) / 2 ≡ 2 ^ n + e / 2
      half n e = let p = pow-suc 2 n in omega (arith, p)

-- ---- the loop over the inks, the last one first

pub record Placed (axes : List Axis) (first k : ℕ) (old now : List ℕ) (count i : ℕ) : Type 0 where
  pub most : i ≤ k
  pub sized : count ≡ 2 ^ (k - i)
  pub room : length now ≡ length old
  pub stand : (c : ℕ) → c < count → get_or now c 0 ≡ distance (steps_at axes (first + i) (k - i)) c

module _ (axes : List Axis) (first k : ℕ) (old : List ℕ) where
  module _ (now : List ℕ) (count i : ℕ) (placed : Placed axes first k old now count i) (some : 0 < i) where
    abbrev d : ℕ
    d = (axis axes (first + (i - 1))).step

    abbrev t : Float
    t = (axis axes (first + (i - 1))).w

    abbrev hs : List Cell
    hs = steps_at axes (first + i) (k - i)

    next-count : k - (i - 1) ≡ suc (k - i)
    next-count = omega (arith, placed.most)

    one_on : suc (first + (i - 1)) ≡ first + i
    one_on = omega arith

    -- with the ink in front
    more : steps_at axes (first + (i - 1)) (k - (i - 1)) ≡ hs ++ (step_cell d t ∷ [])
    more =
        ap (steps_at axes (first + (i - 1))) next-count
        ∙ front axes (first + (i - 1)) (k - i)
        ∙ ap (λ (f : ℕ). steps_at axes f (k - i) ++ (step_cell d t ∷ [])) one_on

    count-is : count ≡ 2 ^ length hs
    count-is = placed.sized ∙ ap (λ (n : ℕ). 2 ^ n) (sym (length-steps axes (first + i) (k - i)))

    -- the inks before it reach no less
    whole : reach hs + d ≤ reach (steps_at axes first k)
    whole =
        let cut : k ≡ k - (i - 1) + (i - 1) = omega (arith, placed.most) in
        let all = ap (λ (n : ℕ). reach (steps_at axes first n)) cut ∙ ap reach (split axes first (i - 1) (k - (i - 1))) ∙ reach-over (steps_at axes (first + (i - 1)) (k - (i - 1))) (steps_at axes first (i - 1)) in
        let these = ap reach more ∙ reach-over hs (step_cell d t ∷ []) in
        omega (arith, all, these)

    pub sums-fit : reach (steps_at axes first k) < 18446744073709551616 → (c : ℕ) → c < count → get_or now c 0 + d < 18446744073709551616
    sums-fit fits c h = omega (arith, whole, placed.stand c h, distance-reach hs c)

    twice : count + count ≡ 2 ^ (k - (i - 1))
    twice = let p = pow-suc 2 (k - i) in let e = ap (λ (n : ℕ). 2 ^ n) next-count in omega (arith, p, e, placed.sized)

    pub counted : k ≤ 16 → count + count ≤ 65536
    counted few =
        let less : k - (i - 1) ≤ 16 = omega arith in
        let most : 2 ^ (k - (i - 1)) ≤ 2 ^ 16 = pow-le-pow_right (zero-lt-suc 1) less in
        omega (arith, most, twice)

    pub room_for : 2 ^ k ≤ length old → count + count ≤ length now
    room_for fit =
        let most : 2 ^ (k - (i - 1)) ≤ 2 ^ k = pow-le-pow_right (zero-lt-suc 1) (omega arith) in
        omega (arith, most, twice, placed.room)

    pub placed-more : 2 ^ k ≤ length old → (next : List ℕ) → next ≡ written_from count (λ c. get_or now c 0 + d) count now → Placed axes first k old next (count * 2) (i - 1)
    placed-more fit next is =
        record {
          most = omega (arith, placed.most);
          sized = doubled ∙ twice;
          room = ap length is ∙ length-written-from count _ count now ∙ placed.room;
          stand = λ c h.
              elim (dec_lt c count) [
                | yes low ↦ below c low ∙ ap (λ (l : List Cell). distance l c) (sym more)
                | no high ↦
                    let e : c ≡ count + (c - count) = omega arith in
                    ap (λ (j : ℕ). get_or next j 0) e ∙ beyond (c - count) (omega (arith, doubled)) ∙ ap₂ (λ (l : List Cell) (j : ℕ). distance l j) (sym more) (sym e)
              ];
        }
      where
        doubled : count * 2 ≡ count + count
        doubled = omega arith

        below : (c : ℕ) → c < count → get_or next c 0 ≡ distance (hs ++ (step_cell d t ∷ [])) c
        below c h =
            ap (λ (l : List ℕ). get_or l c 0) is
            ∙ written-from-before count (λ e. get_or now e 0 + d) count now c 0 h
            ∙ placed.stand c h
            ∙ sym (distance-low d t hs c (subst (λ (n : ℕ). c < n) count-is h))

        beyond : (c : ℕ) → c < count → get_or next (count + c) 0 ≡ distance (hs ++ (step_cell d t ∷ [])) (count + c)
        beyond c h =
            ap (λ (l : List ℕ). get_or l (count + c) 0) is
            ∙ written-from-at count (λ e. get_or now e 0 + d) count now c 0 h (room_for fit)
            ∙ ap (λ (n : ℕ). n + d) (placed.stand c h)
            ∙ sym (distance_high d t hs c (subst (λ (n : ℕ). c < n) count-is h))
            ∙ ap (λ (n : ℕ). distance (hs ++ (step_cell d t ∷ [])) (n + c)) (sym count-is)

-- ---- the loop over the corners of one ink

module _ (old : List ℕ) (count d : ℕ) where
  module _ (now : List ℕ) (c : ℕ) (is : now ≡ written_from count (λ e. get_or old e 0 + d) c old) (less : c < count) where
    pub doubled-at : get_or now c 0 ≡ get_or old c 0
    doubled-at = ap (λ (l : List ℕ). get_or l c 0) is ∙ written-from-before count (λ e. get_or old e 0 + d) c old c 0 less

    pub doubled-next : set now (count + c) (get_or now c 0 + d) ≡ written_from count (λ e. get_or old e 0 + d) (c + 1) old
    doubled-next = ap₂ (λ (l : List ℕ) (v : ℕ). set l (count + c) (v + d)) is doubled-at ∙ written-from-next count (λ e. get_or old e 0 + d) c old

-- the first distance is stored before the loop
pub zeroed-length : (old : List ℕ) → length (set old 0 0) ≡ length old
zeroed-length old = simp length-set
