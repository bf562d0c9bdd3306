-- The inks that are kept: a lookup over them alone is the lookup with skipping, since each other ink's lower node is where the part starts; the
-- loop that moves them up; and the reads. Assumes nothing.
use Prim.Native.Nat.{ℕ, zero, suc, ◌+◌, ◌-◌, ◌*◌, ◌^◌, ◌<◌, ◌≤◌}
use native.Mathlib.Omega.{arith}
use native.Mathlib.Nat.{zero-add, add-zero}
use native.Mathlib.Numerals.{add-one}
use mathlib.Core.Path.{◌≡◌, refl, ap, ap₂, sym, subst, ◌∙◌}
use mathlib.Core.Bool.{Bool, true, false, cond, not}
use mathlib.Core.List.{List, [], ◌∷◌, ◌++◌}
use lib.Ieee.{Float, nan}
use mir.Val.{bool_byte}
use lib.ListN.{length, take, drop, set, length-set, length-append}
use lib.Seq.{get_or-set_same, get_or-set_other}
use Rattle.binary32.specs.Range.{Below}
use Rattle.binary32.specs.Blend.{lerp}
use Rattle.cell.specs.declared.Cell.{Cell}
use Rattle.lookup.specs.Lookup.{Grid, part, lookup_with, never}
use Rattle.lookup.specs.Places.{reach, within, answer_by, answer}
use Rattle.lookup.specs.Idle.{reads, weights_of, fourth_on, active}
use Rattle.lookup.proofs.More.{lookup-more, lookup-few}
use Rattle.lookup.proofs.Part.{drop-within}
use Rattle.lookup.proofs.Counts.{length-weights, reads_three}
use Rattle.walk.specs.declared.Axis.{Axis}
use Rattle.walk.specs.Steps.{step_cell, axis, cell_of, steps_at, stepped, fourth}
use Rattle.walk.specs.Walk as walk
use Rattle.walk.specs.Kept.{kept, kept_at}
use Rattle.walk.proofs.Steps.{split, length-steps}

-- each weight is from 0 up and below 1
abbrev pub Light : List Cell → Type 0
Light [] = Unit {0}
Light (c ∷ cs) = Below 1 c.w × Light cs

-- the first three of n inks come last in the list
pub three-first : (axes : List Axis) (n : ℕ) → 3 ≤ n → steps_at axes 0 n ≡ steps_at axes 3 (n - 3) ++ steps_at axes 0 3
three-first axes n some = let e : n ≡ n - 3 + 3 = omega arith in ap (steps_at axes 0) e ∙ split axes 0 3 (n - 3)

-- each lower node is where the part starts
abbrev pub AtStart : List Cell → Type 0
AtStart [] = Unit {0}
AtStart (c ∷ cs) = (c.x ≡ 0) × AtStart cs

pub at-start-array : (axes : List Axis) (first k : ℕ) → AtStart (steps_at axes first k)
at-start-array axes first zero = tt
at-start-array axes first (suc k) = (refl, at-start-array axes first k)

pub at-start-stepped : (cs : List Cell) → AtStart (stepped cs)
at-start-stepped [] = tt
at-start-stepped (c ∷ cs) = (refl, at-start-stepped cs)

-- the weights from the fourth ink on are those of the inks above three
weights-over : (hs cs : List Cell) → take (length hs) (weights_of (hs ++ cs)) ≡ weights_of hs
weights-over [] cs = refl
weights-over (h ∷ hs) cs = ap (λ (ws : List Float). h.w ∷ ws) (weights-over hs cs)

pub fourth-on : (hs cs : List Cell) → length cs ≡ 3 → fourth_on (weights_of (hs ++ cs)) ≡ weights_of hs
fourth-on hs cs three =
    let back : length (weights_of (hs ++ cs)) - 3 ≡ length hs = omega (arith, length-weights (hs ++ cs), length-append hs cs, three) in
    ap (λ (k : ℕ). take k (weights_of (hs ++ cs))) back ∙ weights-over hs cs

module _ (skip : Float → Bool) where
  -- ---- what is left out changes neither weights nor reach for the worse

  light-step : (h : Cell) (hs cs : List Cell) (b : Bool) → Below 1 h.w → Light (kept skip hs ++ cs) → Light (cond b (kept skip hs) (h ∷ kept skip hs) ++ cs)
  light-step h hs cs true one others = others
  light-step h hs cs false one others = (one, others)

  pub light-kept : (hs cs : List Cell) → Light (hs ++ cs) → Light (kept skip hs ++ cs)
  light-kept [] cs light = light
  light-kept (h ∷ hs) cs light = light-step h hs cs (skip h.w) light.0 (light-kept hs cs light.1)

  reach_step : (h : Cell) (hs cs : List Cell) (b : Bool) → reach (kept skip hs ++ cs) ≤ reach (hs ++ cs)
      → reach (cond b (kept skip hs) (h ∷ kept skip hs) ++ cs) ≤ reach (h ∷ hs ++ cs)
  reach_step h hs cs true le = omega arith
  reach_step h hs cs false le = omega arith

  pub reach-kept : (hs cs : List Cell) → reach (kept skip hs ++ cs) ≤ reach (hs ++ cs)
  reach-kept [] cs = omega arith
  reach-kept (h ∷ hs) cs = reach_step h hs cs (skip h.w) (reach-kept hs cs)

  -- ---- the answers

  module _ (first : List Cell) (three : length first ≡ 3) (o : ℕ) where
    -- an ink above three or more: its lower node is where the part starts
    above : (other : Float → Bool) (h : Cell) (cs : List Cell) (table : List Float) → h.x ≡ 0 → 3 ≤ length cs
        → answer_by other table (h ∷ cs) o
        ≡ cond (other h.w) (answer_by other table cs o) (lerp (answer_by other table cs o) (answer_by other (drop h.x_n table) cs o) h.w)
    above other h cs table starts more =
        lookup-more other (within table o) h cs more
        ∙ ap₂ (λ (f g : Grid). cond (other h.w) (lookup_with other f cs) (lerp (lookup_with other f cs) (lookup_with other g cs) h.w))
        (ap (part (within table o)) starts ∙ sym (drop-within table 0 o)) (sym (drop-within table h.x_n o))

    three-or-more : (hs : List Cell) → 3 ≤ length (hs ++ first)
    three-or-more hs = omega (arith, length-append hs first, three)

    -- one ink more: left out, or kept
    kept_step : (h : Cell) (hs : List Cell) (table : List Float) (b : Bool) → h.x ≡ 0
        → answer table (kept skip hs ++ first) o ≡ answer_by skip table (hs ++ first) o
        → answer (drop h.x_n table) (kept skip hs ++ first) o ≡ answer_by skip (drop h.x_n table) (hs ++ first) o
        → answer table (cond b (kept skip hs) (h ∷ kept skip hs) ++ first) o
        ≡ cond b (answer_by skip table (hs ++ first) o) (lerp (answer_by skip table (hs ++ first) o) (answer_by skip (drop h.x_n table) (hs ++ first) o) h.w)
    kept_step h hs table true starts lower upper = lower
    kept_step h hs table false starts lower upper =
        above never h (kept skip hs ++ first) table starts (three-or-more (kept skip hs))
        ∙ ap₂ (λ (x y : Float). lerp x y h.w) lower upper

    -- the law
    pub kept-answer : (hs : List Cell) → AtStart hs → (table : List Float)
        → answer table (kept skip hs ++ first) o ≡ answer_by skip table (hs ++ first) o
    kept-answer [] start table = sym (lookup-few skip (within table o) first (omega (arith, three)))
    kept-answer (h ∷ hs) start table =
        kept_step h hs table (skip h.w) start.0 (kept-answer hs start.1 table) (kept-answer hs start.1 (drop h.x_n table))
        ∙ sym (above skip h (hs ++ first) table start.0 (three-or-more hs))

  -- ---- the reads

  count-step : (n : ℕ) (h : Cell) (hs : List Cell) (b : Bool) → length hs ≡ n → length (cond b hs (h ∷ hs)) ≡ cond b n (suc n)
  count-step n h hs true is = is
  count-step n h hs false is = ap suc is

  kept-count : (hs : List Cell) → length (kept skip hs) ≡ active skip (weights_of hs)
  kept-count [] = refl
  kept-count (h ∷ hs) = count-step (active skip (weights_of hs)) h (kept skip hs) (skip h.w) (kept-count hs)

  -- each ink that is kept doubles them
  module _ (axes : List Axis) (n : ℕ) (some : 3 ≤ n) (axes' : List Axis) (r : ℕ)
      (are : steps_at axes' 0 r ≡ kept_at skip axes n) where
    abbrev others : List Cell
    others = steps_at axes 3 (n - 3)

    active-are : r - 3 ≡ active skip (weights_of others)
    active-are =
        let all = sym (length-steps axes' 0 r) ∙ ap length are ∙ length-append (kept skip others) (steps_at axes 0 3) in
        omega (arith, all, kept-count others)

    pub kept-reads : reads skip (weights_of (steps_at axes 0 n)) ≡ 6 * 2 ^ (r - 3)
    kept-reads =
        reads_three skip (weights_of (steps_at axes 0 n)) (omega (arith, length-weights (steps_at axes 0 n), length-steps axes 0 n))
        ∙ ap (λ (l : List Cell). 6 * 2 ^ active skip (fourth_on (weights_of l))) (three-first axes n some)
        ∙ ap (λ (ws : List Float). 6 * 2 ^ active skip ws) (fourth-on others (steps_at axes 0 3) refl)
        ∙ ap (λ (k : ℕ). 6 * 2 ^ k) (sym active-are)

-- a weight that is skipped takes no place
pub place : (b : Bool) → bool_byte (not b) ≡ cond b 0 1
place true = refl
place false = refl

-- ---- the loop

-- what is stored at place i changes no place before it
pub steps-kept : (axes : List Axis) (i : ℕ) (a : Axis) (j : ℕ) → j ≤ i → steps_at (set axes i a) 0 j ≡ steps_at axes 0 j
steps-kept axes i a zero h = refl
steps-kept axes i a (suc j) h =
    ap₂ (λ (b : Axis) (cs : List Cell). cell_of b ∷ cs)
    (get_or-set_other axes i (0 + j) a (record { step = 0; w = nan }) (λ e. omega arith))
    (steps-kept axes i a j (omega arith))

-- the array at ink i: those kept of the inks before it stand at the first places, and the others are as they were
pub record Keeping (skip : Float → Bool) (axes₀ : List Axis) (axes : List Axis) (at i : ℕ) : Type 0 where
  pub room : length axes ≡ length axes₀
  pub some : 3 ≤ at
  pub few : at ≤ i
  pub standing : steps_at axes 0 at ≡ kept skip (steps_at axes₀ 3 (i - 3)) ++ steps_at axes₀ 0 3
  pub next : (j : ℕ) → i ≤ j → axis axes j ≡ axis axes₀ j

module _ (skip : Float → Bool) (axes₀ axes : List Axis) (at i : ℕ) (old : Keeping skip axes₀ axes at i) (inside : i < length axes₀) where
  abbrev a : Axis
  a = axis axes i

  abbrev axes' : List Axis
  axes' = set axes at a

  here : axis axes' (0 + at) ≡ a
  here = ap (axis axes') (zero-add at) ∙ get_or-set_same axes at a (record { step = 0; w = nan }) (omega (arith, old.room, old.few))

  before : steps_at axes' 0 at ≡ kept skip (steps_at axes₀ 3 (i - 3)) ++ steps_at axes₀ 0 3
  before = steps-kept axes at a at (omega arith) ∙ old.standing

  -- one more ink: left out, or kept
  stands : (b : Bool) → steps_at axes' 0 (at + cond b 0 1) ≡ cond b (kept skip (steps_at axes₀ 3 (i - 3))) (cell_of a ∷ kept skip (steps_at axes₀ 3 (i - 3))) ++ steps_at axes₀ 0 3
  stands true = ap (steps_at axes' 0) (add-zero at) ∙ before
  stands false = ap (steps_at axes' 0) (add-one at) ∙ ap₂ (λ (b : Axis) (cs : List Cell). cell_of b ∷ cs) here before

  count : (b : Bool) → (3 ≤ at + cond b 0 1) × (at + cond b 0 1 ≤ i + 1)
  count true = (omega (arith, old.some), omega (arith, old.few))
  count false = (omega (arith, old.some), omega (arith, old.few))

  ink : a ≡ axis axes₀ (3 + (i - 3))
  ink = let e : i ≡ 3 + (i - 3) = omega (arith, old.some, old.few) in old.next i (omega arith) ∙ ap (axis axes₀) e

  pub keeping-more : (p : ℕ) → p ≡ cond (skip a.w) 0 1 → Keeping skip axes₀ axes' (at + p) (i + 1)
  keeping-more p is =
      let counted = subst (λ (q : ℕ). (3 ≤ at + q) × (at + q ≤ i + 1)) (sym is) (count (skip a.w)) in
      let next-count : suc (i - 3) ≡ i + 1 - 3 = omega (arith, old.some, old.few) in
      record {
        room = simp length-set old.room;
        some = counted.0;
        few = counted.1;
        standing =
            ap (λ (q : ℕ). steps_at axes' 0 (at + q)) is
            ∙ stands (skip a.w)
            ∙ ap (λ (b : Axis). kept skip (cell_of b ∷ steps_at axes₀ 3 (i - 3)) ++ steps_at axes₀ 0 3) ink
            ∙ ap (λ (n : ℕ). kept skip (steps_at axes₀ 3 n) ++ steps_at axes₀ 0 3) next-count;
        next = λ j h. get_or-set_other axes at j a (record { step = 0; w = nan }) (λ e. omega (arith, old.few)) ∙ old.next j (omega arith);
      }

-- with nothing to be skipped all inks are kept
kept-all : (hs : List Cell) → kept never hs ≡ hs
kept-all [] = refl
kept-all (h ∷ hs) = ap (λ (cs : List Cell). h ∷ cs) (kept-all hs)

pub never-kept : (axes : List Axis) (n : ℕ) → 3 ≤ n → steps_at axes 0 n ≡ kept_at never axes n
never-kept axes n some = three-first axes n some ∙ ap (λ (cs : List Cell). cs ++ steps_at axes 0 3) (sym (kept-all (steps_at axes 3 (n - 3))))

-- ---- ink 4 alone above three

pub fourth-above : (b : Bool) (d : ℕ) (t : Float) (three : List Float → Float) (part : List Float)
    → fourth b (three part) (three (drop d part)) t ≡ walk.above three (cond b [] (step_cell d t ∷ [])) part
fourth-above true d t three part = refl
fourth-above false d t three part = refl
