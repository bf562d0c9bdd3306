-- The strides give ICC.1's node order, so that a lookup over distances is the lookup in the table. For any sizes. Assumes nothing.
use Prim.Native.Nat.{ℕ, suc, ◌+◌, ◌*◌}
use native.Mathlib.Omega.{arith}
use native.Mathlib.Nat.{add-mul, zero-mul, mul_comm, mul_assoc}
use mathlib.Core.Path.{◌≡◌, refl, ap, ap₂, sym, fun_ext, ◌∙◌}
use mathlib.Core.Bool.{Bool, cond}
use mathlib.Core.List.{List, [], ◌∷◌}
use lib.Ieee.{Float, nan}
use lib.ListN.{length, get_or}
use Rattle.binary32.specs.Blend.{lerp}
use Rattle.cell.specs.declared.Cell.{Cell}
use Rattle.layout.specs.Order.{index}
use Rattle.lookup.specs.Lookup.{Grid, part, lookup_with}
use Rattle.lookup.specs.Table.{cells}
use Rattle.lookup.specs.Places.{sum, within, strides, distances, scaled, answer_by, answer_in}

regroup : (k m g r : ℕ) → k * m + r * (m * g) ≡ (k + g * r) * m
regroup k m g r = ap (λ (n : ℕ). k * m + n) (mul_comm r (m * g) ∙ mul_assoc m g r ∙ mul_comm m (g * r)) ∙ sym (add-mul k (g * r) m)

-- ICC.1's node number, times m, is the sum of the distances
ordered : (m : ℕ) (sizes ks : List ℕ) → sum (distances (strides m sizes) ks) ≡ index sizes ks * m
unfolding index
ordered m [] ks = sym (zero-mul m)
ordered m (g ∷ gs) [] = sym (zero-mul m)
ordered m (g ∷ gs) (k ∷ ks) = ap (λ (r : ℕ). k * m + r) (ordered (m * g) gs ks) ∙ regroup k m g (index gs ks)

-- a lookup whose cells have distances for their nodes
lookup-scaled : (skip : Float → Bool) (ss : List ℕ) (cs : List Cell) → length ss ≡ length cs → (f : Grid)
    → lookup_with skip f (scaled ss cs) ≡ lookup_with skip (λ ks. f (distances ss ks)) cs
unfolding lookup_with
lookup-scaled skip [] [] h f = refl
lookup-scaled skip [] (c ∷ cs) h f = absurd (omega arith)
lookup-scaled skip (s ∷ ss) [] h f = absurd (omega arith)
lookup-scaled skip (s ∷ []) (c ∷ []) h f = refl
lookup-scaled skip (s ∷ []) (c ∷ c' ∷ cs) h f = absurd (omega arith)
lookup-scaled skip (s ∷ s' ∷ ss) (c ∷ []) h f = absurd (omega arith)
lookup-scaled skip (s ∷ s' ∷ []) (c ∷ c' ∷ []) h f = refl
lookup-scaled skip (s ∷ s' ∷ []) (c ∷ c' ∷ c'' ∷ cs) h f = absurd (omega arith)
lookup-scaled skip (s ∷ s' ∷ s'' ∷ ss) (c ∷ c' ∷ []) h f = absurd (omega arith)
lookup-scaled skip (s ∷ s' ∷ s'' ∷ []) (c ∷ c' ∷ c'' ∷ []) h f = refl
lookup-scaled skip (s ∷ s' ∷ s'' ∷ []) (c ∷ c' ∷ c'' ∷ c''' ∷ cs) h f = absurd (omega arith)
lookup-scaled skip (s ∷ s' ∷ s'' ∷ s''' ∷ ss) (c ∷ c' ∷ c'' ∷ []) h f = absurd (omega arith)
lookup-scaled skip (s ∷ s' ∷ s'' ∷ s''' ∷ ss) (c ∷ c' ∷ c'' ∷ c''' ∷ cs) h f =
    ap₂ (λ (a b : Float). cond (skip c.w) a (lerp a b c.w))
    (lookup-scaled skip (s' ∷ s'' ∷ s''' ∷ ss) (c' ∷ c'' ∷ c''' ∷ cs) (omega arith) (part f (c.x * s)))
    (lookup-scaled skip (s' ∷ s'' ∷ s''' ∷ ss) (c' ∷ c'' ∷ c''' ∷ cs) (omega arith) (part f (c.x_n * s)))

pub as_many : (m : ℕ) (sizes : List ℕ) (xs : List Float) → length (strides m sizes) ≡ length (cells sizes xs)
unfolding cells
as_many m [] xs = refl
as_many m (g ∷ gs) xs = ap suc (as_many (m * g) gs xs)

-- cells that are held as distances give the answers of the table
pub answers-law : (skip : Float → Bool) (gs : List ℕ) (m : ℕ) (table xs : List Float) (o : ℕ)
    → answer_by skip table (scaled (strides m gs) (cells gs xs)) o ≡ answer_in skip gs m table xs o
answers-law skip gs m table xs o =
    lookup-scaled skip (strides m gs) (cells gs xs) (as_many m gs xs) (within table o)
    ∙ ap (λ (f : Grid). lookup_with skip f (cells gs xs)) (fun_ext (λ ks. ap (λ (n : ℕ). get_or table (n + o) nan) (ordered m gs ks)))
