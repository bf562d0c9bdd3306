-- What a lookup means, over a grid function: f takes a node's coordinates, LAST INK FIRST, to the entry stored there. The cells come last
-- ink first too. Definitions only.
use Rattle.std.specs.Prelude.{ℕ, Bool, false, cond, List, [], ◌∷◌, Float}
use Rattle.std.specs.Float.Ieee.{eq}
use Rattle.binary32.specs.Numbers.{plus_zero}
use Rattle.binary32.specs.Blend.{lerp, along, square, tetra}
use Rattle.cell.specs.declared.Cell.{Cell}
pub use Rattle.cell.specs.Rule.{node}

abbrev pub Grid : Type 0
Grid = List ℕ → Float

-- the grid of the other inks, where the last ink stands on line k
abbrev pub part : Grid → ℕ → Grid
part f k ks = f (k ∷ ks)

-- With no ink the answer is the one entry; one ink, two inks and three have their own blends; from the fourth ink on the answer lies
-- between two lookups with one ink fewer, in the parts at the last ink's lower and upper node. Where the ink's weight is to be skipped,
-- it is the lower one as it stands, and the upper part is not visited.
unfoldable pub lookup_with : (Float → Bool) → Grid → List Cell → Float
lookup_with skip f [] = f []
lookup_with skip f (c ∷ []) = along (f (c.x ∷ [])) (f (c.x_n ∷ [])) c.w
lookup_with skip f (d ∷ c ∷ []) = square (λ i j. f (node d j ∷ node c i ∷ [])) c.w d.w
lookup_with skip f (e ∷ d ∷ c ∷ []) = tetra (λ i j k. f (node e k ∷ node d j ∷ node c i ∷ [])) c.w d.w e.w
lookup_with skip f (h ∷ e ∷ d ∷ c ∷ cs) =
    let lower = lookup_with skip (part f h.x) (e ∷ d ∷ c ∷ cs) in
    cond (skip h.w) lower (lerp lower (lookup_with skip (part f h.x_n) (e ∷ d ∷ c ∷ cs)) h.w)

-- document 01's lookup skips nothing
abbrev pub never : Float → Bool
never w = false

abbrev pub lookup : Grid → List Cell → Float
lookup f cs = lookup_with never f cs

-- document 02, E6: a weight of 0, of either sign, counts for nothing
abbrev pub idle : Float → Bool
idle w = eq w plus_zero
