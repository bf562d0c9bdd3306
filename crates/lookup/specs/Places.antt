-- Where the code finds its entries, for the contracts of private functions alone: no public statement rests on this file. A cell is held
-- by the distances, in entries, from a table part's start to its lower and its upper node. Definitions only.
use Rattle.std.specs.Prelude.{ℕ, zero, suc, ◌+◌, ◌*◌, ◌≤◌, ◌<◌, max, ◌≡◌, Bool, false, cond, List, [], ◌∷◌, ltb, Float, length, get_or}
use Rattle.std.specs.Float.{nan}
use Rattle.std.specs.Float.Ieee.{is_nan}
use Rattle.lists.specs.Lists.{last_first, product}
use Rattle.lists.specs.Buffer.{left}
use Rattle.cell.specs.declared.Cell.{Cell}
use Rattle.cell.specs.Rule.{ink_cell, scale}
use Rattle.layout.specs.Order.{index, Steps}
use Rattle.layout.specs.Lengths.{length_refusal}
use Rattle.lookup.specs.Lookup.{Grid, lookup_with, never}
use Rattle.lookup.specs.Table.{cells, nan_refusal}

-- the sum of a list of distances
abbrev pub sum : List ℕ → ℕ
sum [] = 0
sum (k ∷ ks) = k + sum ks

-- output o of the node that the distances lead to, in a part of the table
abbrev pub within : List Float → ℕ → Grid
within part o ks = get_or part (sum ks + o) nan

-- no distance that cells lead to is larger
abbrev pub reach : List Cell → ℕ
reach [] = 0
reach (c ∷ cs) = max c.x c.x_n + reach cs

-- the entries between the nodes of each ink, last ink first: m times the sizes of the inks after it
abbrev pub strides : ℕ → List ℕ → List ℕ
strides m [] = []
strides m (g ∷ gs) = m ∷ strides (m * g) gs

-- the distances that coordinates stand for
abbrev pub distances : List ℕ → List ℕ → List ℕ
distances [] ks = []
distances (s ∷ ss) [] = []
distances (s ∷ ss) (k ∷ ks) = k * s ∷ distances ss ks

-- the cells of all inks, by their distances
abbrev pub scaled : List ℕ → List Cell → List Cell
scaled [] cs = []
scaled (s ∷ ss) [] = []
scaled (s ∷ ss) (c ∷ cs) = scale s c ∷ scaled ss cs

-- the answer at output o of cells in a part of the table, with the weights that are to be skipped, and without
abbrev pub answer_by : (Float → Bool) → List Float → List Cell → ℕ → Float
answer_by skip part cs o = lookup_with skip (within part o) cs

abbrev pub answer : List Float → List Cell → ℕ → Float
answer part cs o = answer_by never part cs o

-- ---- a grid with a size and a filling size for each ink, first ink first

-- ink i, counted from 0, and the first n inks, last ink first
abbrev pub placed_ink : List ℕ → List ℕ → List Float → ℕ → Cell
placed_ink filling sizes xs i = scale (get_or filling i 0) (ink_cell i (get_or sizes i 0) (get_or xs i nan))

abbrev pub first_inks : List ℕ → List ℕ → List Float → ℕ → List Cell
first_inks filling sizes xs zero = []
first_inks filling sizes xs (suc i) = placed_ink filling sizes xs i ∷ first_inks filling sizes xs i

-- the filling sizes of the first n inks are of 32 bits, and their sizes are bytes
abbrev pub Narrow : List ℕ → List ℕ → ℕ → Type 0
Narrow filling sizes n = (i : ℕ) → i < n → (get_or filling i 0 < 4_294_967_296) × (get_or sizes i 0 < 256)

-- what an accepted layout of n inks and m outputs promises of them
pub record Promised (filling sizes : List ℕ) (n m : ℕ) : Type 0 where
  pub inks-from : 1 ≤ n
  pub inks-to : n ≤ 15
  pub outputs-to : m ≤ 15
  pub above : (i : ℕ) → i < n → 0 < get_or sizes i 0
  pub narrow : Narrow filling sizes n
  pub steps : Steps filling (last_first n sizes) m
  pub whole : get_or filling 0 0 * get_or sizes 0 0 ≡ product (last_first n sizes) * m

-- the answer at output o in a table of the sizes gs, last ink first, with m outputs
abbrev pub answer_in : (Float → Bool) → List ℕ → ℕ → List Float → List Float → ℕ → Float
answer_in skip gs m table xs o = lookup_with skip (λ ks. get_or table (index gs ks * m + o) nan) (cells gs xs)

-- no NaN is among the first n inputs
abbrev pub NoNans : List Float → ℕ → Type 0
NoNans xs n = (i : ℕ) → i < n → is_nan (get_or xs i nan) ≡ false

-- what is owed after the tests of the lengths: the number r, and the answer buffer afterwards, `now`, which was `old`
pub record Settled (answer : ℕ → Float) (m : ℕ) (inputs old : List Float) (r : ℕ) (now : List Float) : Type 0 where
  pub number : r ≡ nan_refusal inputs
  pub entries : now ≡ left r answer m old

-- the same in a grid of the sizes of the inks, first ink first
abbrev pub SettledWith : (Float → Bool) → List ℕ → ℕ → List Float → List Float → List Float → ℕ → List Float → Type 0
SettledWith skip sizes m table inputs old r now = Settled (answer_in skip (last_first (length inputs) sizes) m table inputs) m inputs old r now

abbrev pub SettledIn : List ℕ → ℕ → List Float → List Float → List Float → ℕ → List Float → Type 0
SettledIn sizes m table inputs old r now = SettledWith never sizes m table inputs old r now

-- what is owed after an accepted layout: the number r, and the answer buffer afterwards, `now`, which was `old`
pub record Answered (skip : Float → Bool) (gs : List ℕ) (n m : ℕ) (table inputs old : List Float) (r : ℕ) (now : List Float) : Type 0 where
  pub number : r ≡ length_refusal (product gs * m) n (length table) (length inputs) (cond (ltb (length old) m) 8 (nan_refusal inputs))
  pub entries : now ≡ left r (answer_in skip gs m table inputs) m old
