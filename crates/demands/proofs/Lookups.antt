-- A lookup sees the entries at the nodes of its cells alone, and stays near 0 to 1 where these and the weights are from 0 to 1: for any count of inks.
-- Assumes nothing.
use Prim.Native.Nat.{◌+◌, ◌*◌, ◌≤◌}
use mathlib.Core.Path.{◌≡◌}
use native.Mathlib.Omega.{arith}
use mathlib.Core.Bool.{Bool, true, false, cond}
use mathlib.Core.List.{List, [], ◌∷◌}
use lib.Dec.{lit≤}
use lib.Ieee.{Float}
use lib.ListN.{length}
use Rattle.binary32.specs.Blend.{lerp, along, square, tetra}
use Rattle.binary32.proofs.Held.{Held, held_more}
use Rattle.binary32.proofs.Means.{lerp-held, along-held, square-held}
use Rattle.binary32.proofs.Tetrahedron.{tetra-held}
use Rattle.cell.specs.declared.Cell.{Cell}
use Rattle.lookup.specs.Lookup.{Grid, node, part, lookup_with}
use Rattle.demands.proofs.Each.{either_way, Each, Weights}

-- two grids that agree at the nodes of the cells give one answer
pub lookup-agrees : (skip : Float → Bool) (f g : Grid) (cs : List Cell) → Each (λ ks. f ks ≡ g ks) cs
    → lookup_with skip f cs ≡ lookup_with skip g cs
unfolding lookup_with
lookup-agrees skip f g [] F = F
lookup-agrees skip f g (c ∷ []) F = λ t. along (F false t) (F true t) c.w
lookup-agrees skip f g (d ∷ c ∷ []) F = λ t. square (λ i j. F j i t) c.w d.w
lookup-agrees skip f g (e ∷ d ∷ c ∷ []) F = λ t. tetra (λ i j k. F k j i t) c.w d.w e.w
lookup-agrees skip f g (h ∷ e ∷ d ∷ c ∷ cs) F =
    let low = lookup-agrees skip (part f h.x) (part g h.x) (e ∷ d ∷ c ∷ cs) (F false) in
    let high = lookup-agrees skip (part f h.x_n) (part g h.x_n) (e ∷ d ∷ c ∷ cs) (F true) in
    λ t. cond (skip h.w) (low t) (lerp (low t) (high t) h.w)

-- by the count of inks: 10 for the first three at most, and 4 for each ink above
pub lookup-held : (skip : Float → Bool) (f : Grid) (cs : List Cell) → length cs ≤ 1000
    → Each (λ ks. Held 0 (f ks)) cs → Weights (Held 0) cs → Held (10 + 4 * length cs) (lookup_with skip f cs)
unfolding lookup_with
lookup-held skip f [] n F W = held_more 0 10 (f []) (lit≤ tt) F
lookup-held skip f (c ∷ []) n F W =
    held_more 5 14 (lookup_with skip f (c ∷ [])) (lit≤ tt)
    (along-held 0 (f (c.x ∷ [])) (f (c.x_n ∷ [])) c.w (lit≤ tt) (F false) (F true) W.0)
lookup-held skip f (d ∷ c ∷ []) n F W =
    held_more 10 18 (lookup_with skip f (d ∷ c ∷ [])) (lit≤ tt)
    (square-held (λ i j. f (node d j ∷ node c i ∷ [])) c.w d.w (λ i j. F j i) W.1.0 W.0)
lookup-held skip f (e ∷ d ∷ c ∷ []) n F W =
    held_more 9 22 (lookup_with skip f (e ∷ d ∷ c ∷ [])) (lit≤ tt)
    (tetra-held 0 (λ i j k. f (node e k ∷ node d j ∷ node c i ∷ [])) c.w d.w e.w (lit≤ tt) (λ i j k. F k j i) W.1.1.0 W.1.0 W.0)
lookup-held skip f (h ∷ e ∷ d ∷ c ∷ cs) n F W =
    let rest = e ∷ d ∷ c ∷ cs in
    let k = 10 + 4 * length rest in
    let all = 10 + 4 * length (h ∷ rest) in
    let lower = lookup_with skip (part f h.x) rest in
    let upper = lookup_with skip (part f h.x_n) rest in
    let low = lookup-held skip (part f h.x) (e ∷ d ∷ c ∷ cs) (omega arith) (F false) W.1 in
    let high = lookup-held skip (part f h.x_n) (e ∷ d ∷ c ∷ cs) (omega arith) (F true) W.1 in
    either_way (Held all) (skip h.w) (held_more k all lower (omega arith) low)
    (held_more (k + 4) all (lerp lower upper h.w) (omega arith) (lerp-held k lower upper h.w (omega arith) low high W.0))
