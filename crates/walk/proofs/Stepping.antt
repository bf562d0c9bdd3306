-- A lookup by steps from the lowest corner is the lookup by both nodes; and the loop over the inks. Assumes nothing.
use Prim.Native.Nat.{ℕ, zero, suc, ◌+◌, ◌-◌, ◌<◌, ◌≤◌}
use native.Mathlib.Omega.{arith}
use native.Mathlib.Nat.{zero-add}
use native.Mathlib.Numerals.{add-one}
use mathlib.Core.Path.{◌≡◌, refl, ap, ap₂, sym, fun_ext, ◌∙◌}
use mathlib.Core.Bool.{Bool, true, false, cond}
use mathlib.Core.List.{List, [], ◌∷◌}
use lib.Ieee.{Float, nan, is_nan}
use lib.ListN.{length, get_or, take, drop, set, length-set}
use lib.Seq.{get_or-drop, get_or-set_same}
use Rattle.binary32.specs.Blend.{along, square, tetra, lerp}
use Rattle.lists.specs.Lists.{some}
use Rattle.cell.specs.declared.Cell.{Cell}
use Rattle.lookup.specs.Lookup.{Grid, node, lookup_with}
use Rattle.lookup.specs.Places.{sum, reach, answer_by, first_inks, NoNans}
use Rattle.lookup.specs.Idle.{weights_of}
use Rattle.lookup.proofs.Part.{from-drop}
use Rattle.walk.proofs.Kept.{steps-kept}
use Rattle.walk.proofs.Reading.{Proper, cells-reach, nans-next, all-numbers}
use Rattle.walk.specs.declared.Call.{Call}
use Rattle.walk.specs.Calls.{ink_of, first_of, inks_of, Ready}
use Rattle.walk.specs.declared.Axis.{Axis}
use Rattle.walk.specs.Steps.{axis, cell_of, step_cell, steps_at, stepped, lows}

node-step : (c : Cell) (b : Bool) → c.x ≤ c.x_n → node c b ≡ c.x + node (step_cell (c.x_n - c.x) c.w) b
node-step c true h = omega arith
node-step c false h = omega arith

-- one node of one more ink
side : (skip : Float → Bool) (g : ℕ → Float) (d : ℕ) (others : List Cell) (n x s : ℕ) → n ≡ x + s
    → lookup_with skip (λ ks. g (d + n + sum ks)) others ≡ lookup_with skip (λ ks. g (d + n + lows others + sum ks)) (stepped others)
    → lookup_with skip (λ ks. g (d + (n + sum ks))) others ≡ lookup_with skip (λ ks. g (d + (x + lows others) + (s + sum ks))) (stepped others)
side skip g d others n x s is same =
    ap (λ (f : Grid). lookup_with skip f others) (fun_ext (λ ks. ap g (first (sum ks))))
    ∙ same
    ∙ ap (λ (f : Grid). lookup_with skip f (stepped others)) (fun_ext (λ ks. ap g (second (lows others) (sum ks))))
  where
    first : (k : ℕ) → d + (n + k) ≡ d + n + k
    first k = omega arith

    second : (l k : ℕ) → d + n + l + k ≡ d + (x + l) + (s + k)
    second l k = omega arith

lower : (x : ℕ) → x ≡ x + 0
lower x = omega arith

upper : (x y : ℕ) → x ≤ y → y ≡ x + (y - x)
upper x y l = omega arith

one_place : (d x a a' : ℕ) → a ≡ x + a' → d + (a + 0) ≡ d + (x + 0) + (a' + 0)
one_place d x a a' e = omega arith

two-places : (d x y a b a' b' : ℕ) → a ≡ x + a' → b ≡ y + b' → d + (b + (a + 0)) ≡ d + (y + (x + 0)) + (b' + (a' + 0))
two-places d x y a b a' b' e f = omega arith

three-places : (d x y z a b c a' b' c' : ℕ) → a ≡ x + a' → b ≡ y + b' → c ≡ z + c' → d + (c + (b + (a + 0))) ≡ d + (z + (y + (x + 0))) + (c' + (b' + (a' + 0)))
three-places d x y z a b c a' b' c' e f g = omega arith

-- in any list of entries, from d on
by-steps : (skip : Float → Bool) (g : ℕ → Float) (d : ℕ) (cs : List Cell) → Proper cs
    → lookup_with skip (λ ks. g (d + sum ks)) cs ≡ lookup_with skip (λ ks. g (d + lows cs + sum ks)) (stepped cs)
unfolding lookup_with
by-steps skip g d [] o = ap g (omega arith)
by-steps skip g d (c ∷ []) o = ap₂ (λ (a b : ℕ). along (g a) (g b) c.w) (one_place d c.x c.x 0 (lower c.x)) (one_place d c.x c.x_n (c.x_n - c.x) (upper c.x c.x_n o.0.0))
by-steps skip g d (e ∷ c ∷ []) o =
    ap (λ (k : Bool → Bool → Float). square k c.w e.w) (fun_ext λ i. fun_ext λ j. ap g (two-places d c.x e.x (node c i) (node e j) _ _ (node-step c i o.1.0.0) (node-step e j o.0.0)))
by-steps skip g d (h ∷ e ∷ c ∷ []) o =
    ap (λ (f : Bool → Bool → Bool → Float). tetra f c.w e.w h.w) (fun_ext λ i. fun_ext λ j. fun_ext λ k. ap g (three-places d c.x e.x h.x (node c i) (node e j) (node h k) _ _ _ (node-step c i o.1.1.0.0) (node-step e j o.1.0.0) (node-step h k o.0.0)))
by-steps skip g d (h ∷ e ∷ c ∷ b ∷ cs) o =
    ap₂ (λ (x y : Float). cond (skip h.w) x (lerp x y h.w))
    (side skip g d (e ∷ c ∷ b ∷ cs) h.x h.x 0 (lower h.x) (by-steps skip g (d + h.x) (e ∷ c ∷ b ∷ cs) o.1))
    (side skip g d (e ∷ c ∷ b ∷ cs) h.x_n h.x (h.x_n - h.x) (upper h.x h.x_n o.0.0) (by-steps skip g (d + h.x_n) (e ∷ c ∷ b ∷ cs) o.1))

-- in the part from the lowest corner on
pub stepped-answer : (skip : Float → Bool) (table : List Float) (cs : List Cell) → Proper cs → (o : ℕ)
    → answer_by skip (take (length table - lows cs) (drop (lows cs) table)) (stepped cs) o ≡ answer_by skip table cs o
stepped-answer skip table cs ordered o =
    ap (λ (p : List Float). answer_by skip p (stepped cs) o) (from-drop table (lows cs))
    ∙ ap (λ (f : Grid). lookup_with skip f (stepped cs)) (fun_ext (λ ks. get_or-drop (lows cs) table (sum ks + o) nan ∙ ap (λ (n : ℕ). get_or table n nan) (place (lows cs) (sum ks))))
    ∙ sym (by-steps skip (λ n. get_or table (n + o) nan) 0 cs ordered)
    ∙ ap (λ (f : Grid). lookup_with skip f cs) (fun_ext (λ ks. ap (λ (n : ℕ). get_or table (n + o) nan) (zero-add (sum ks))))
  where
    place : (l s : ℕ) → l + (s + o) ≡ 0 + l + s + o
    place l s = omega arith

-- steps leave the weights as they are
pub stepped-weights : (cs : List Cell) → weights_of (stepped cs) ≡ weights_of cs
stepped-weights [] = refl
stepped-weights (c ∷ cs) = ap (λ (ws : List Float). c.w ∷ ws) (stepped-weights cs)

-- the lowest corner and the steps reach as far as the cells
pub stepped-reach : (cs : List Cell) → Proper cs → lows cs + reach (stepped cs) ≡ reach cs
stepped-reach [] o = omega arith
stepped-reach (c ∷ cs) o = let e = stepped-reach cs o.1 in let l = o.0.0 in omega (arith, e, l)

-- ---- the loop over the inks

pub lows-reach : (filling sizes : List ℕ) (xs : List Float) (n : ℕ) → lows (first_inks filling sizes xs n) ≤ reach (first_inks filling sizes xs n)
lows-reach filling sizes xs zero = omega arith
lows-reach filling sizes xs (suc n) = omega (arith, lows-reach filling sizes xs n)

-- an ink by its step
abbrev pub axis_of : Cell → Axis
axis_of c = record { step = c.x_n - c.x; w = c.w }

-- after i inks
pub record Stepping (call : Call) (axes : List Axis) (at i : ℕ) : Type 0 where
  pub room : length axes ≡ 16
  pub numbers : NoNans call.inputs.now i
  pub base : at ≡ lows (first_of call i)
  pub standing : steps_at axes 0 i ≡ stepped (first_of call i)

module _ {call : Call} (ready : Ready call) {axes : List Axis} {at i : ℕ}
    (old : Stepping call axes at i) where
  module _ (less : i < length call.inputs.now) (c : Cell) (is : c ≡ ink_of call i) where
    pub stepping-more : is_nan (get_or call.inputs.now i nan) ≡ false → Stepping call (set axes i (axis_of c)) (at + c.x) (i + 1)
    stepping-more number =
        record {
          room = simp length-set old.room;
          numbers = nans-next call.inputs.now i old.numbers number;
          base = rw (add-one i) (sum-turned old.base (ap (λ (q : Cell). q.x) is));
          standing = rw (add-one i) (ap₂ (λ (q : Cell) (cs : List Cell). q ∷ cs) (ap cell_of here ∙ ap (λ (q : Cell). step_cell (q.x_n - q.x) q.w) is) (steps-kept axes i (axis_of c) i (omega arith) ∙ old.standing));
        }
      where
        sum-turned : {a l y z : ℕ} → a ≡ l → y ≡ z → a + y ≡ z + l
        sum-turned e f = omega arith

        inside : i < length axes
        inside = omega (arith, ready.laid.inks-to, less, old.room)

        here : axis (set axes i (axis_of c)) (0 + i) ≡ axis_of c
        here = ap (axis (set axes i (axis_of c))) (zero-add i) ∙ get_or-set_same axes i (axis_of c) (record { step = 0; w = nan }) inside

    -- the lowest corner so far stands within the call.table.now
    pub base-within : at + c.x + call.m ≤ length call.table.now
    base-within =
        let x = ap (λ (q : Cell). q.x) is in
        omega (arith, x, old.base, lows-reach call.filling.now call.sizes.now call.inputs.now (suc i), cells-reach ready (suc i) less)

  -- after the last one
  pub stepped-all : i ≡ length call.inputs.now → (some is_nan call.inputs.now ≡ false) × (at ≡ lows (inks_of call))
  stepped-all all = (all-numbers call.inputs.now i old.numbers (sym all), old.base ∙ ap (λ (n : ℕ). lows (first_of call n)) all)
