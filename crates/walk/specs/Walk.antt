-- The second engine: the answers of three inks at all corners of the further inks, folded by halves. A corner's number has a bit for
-- each further ink: ink 4 the highest, the last ink the lowest, 1 where the corner stands at the ink's upper node. Entry c * u + o is
-- output o of corner c. Definitions only.
use Rattle.std.specs.Prelude.{ℕ, zero, suc, ◌+◌, ◌*◌, ◌^◌, ◌/◌, ◌%◌, ◌<◌, ◌≡◌, List, [], ◌∷◌, ◌++◌, eqb, Float, length, get_or, drop}
use Rattle.std.specs.Float.{nan}
use Rattle.binary32.specs.Blend.{lerp}
use Rattle.cell.specs.declared.Cell.{Cell}
use Rattle.walk.specs.declared.Axis.{Axis}
use Rattle.lookup.specs.Lookup.{node}
use Rattle.walk.specs.Steps.{axis, steps_at, first_three, tetra_of}

-- further inks, last ink first, above what `three` gives in a part of the table: along the last one, between the parts at its nodes
abbrev pub above : (List Float → Float) → List Cell → List Float → Float
above three [] part = three part
above three (h ∷ hs) part = lerp (above three hs (drop h.x part)) (above three hs (drop h.x_n part)) h.w

-- output o of the first three inks of the arrays and k more, in a part of the table
abbrev pub blended : List Axis → ℕ → ℕ → List Float → Float
blended axes k o = above (tetra_of (first_three axes) o) (steps_at axes 3 k)

-- the distance, in entries, of corner c from a part's start. The cells come last ink first
abbrev pub distance : List Cell → ℕ → ℕ
distance [] c = 0
distance (h ∷ hs) c = node h (eqb (c % 2) 1) + distance hs (c / 2)

-- the weights of the further inks, ink 4 first
abbrev pub weights : List Cell → List Float
weights [] = []
weights (h ∷ hs) = weights hs ++ (h.w ∷ [])

-- the same, of k inks from `first` on in an array
abbrev pub weights_at : List Axis → ℕ → ℕ → List Float
weights_at axes first zero = []
weights_at axes first (suc k) = (axis axes first).w ∷ weights_at axes (suc first) k

-- one step: each entry of the first half, of s entries, goes towards the one that stands s further
abbrev pub halved : Float → ℕ → (ℕ → Float) → ℕ → Float
halved w s v i = lerp (v i) (v (i + s)) w

-- the fold by halves, over the weights, ink 4 first: with k weights to go the list has 2 ^ k * u entries, and at the end u
abbrev pub folded : ℕ → List Float → (ℕ → Float) → ℕ → Float
folded u [] v = v
folded u (w ∷ ws) v = folded u ws (halved w (2 ^ length ws * u) v)

-- the first four entries of a buffer, `now`, which was `old`, are the fold
pub record Folded (ws : List Float) (old now : List Float) : Type 0 where
  pub room : length now ≡ length old
  pub answers : (o : ℕ) → o < 4 → get_or now o nan ≡ folded 4 ws (λ i. get_or old i nan) o

-- the distances of all corners of the k inks hs
pub record Distant (hs : List Cell) (k : ℕ) (offs : List ℕ) : Type 0 where
  pub count : length offs ≡ 2 ^ k
  pub stand : (c : ℕ) → c < 2 ^ k → get_or offs c 0 ≡ distance hs c

-- the blocks of the first n corners, as far as `left` outputs of each are looked at
pub record Cornered (three : ℕ → List Float → Float) (offs : List ℕ) (part : List Float) (left n : ℕ) (old now : List Float) : Type 0 where
  pub room : length now ≡ length old
  pub entries : (c o : ℕ) → c < n → o < 4 → o < left → get_or now (c * 4 + o) nan ≡ three o (drop (get_or offs c 0) part)
