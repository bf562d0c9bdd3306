-- Document 02, E1 and E5. The slab of ink j at line k: the table for the other n - 1 inks that holds, in their old order, the entries of the nodes whose coordinate
-- for ink j is k; and what cutting it out answers. Definitions only.
use Rattle.std.specs.Prelude.{ℕ, zero, suc, ◌-◌, ◌*◌, ◌/◌, ◌%◌, ◌≡◌, Bool, cond, not, ◌&&◌, ◌||◌, List, [], ◌∷◌, leb, ltb, eqb, Float, length, get_or, take}
use Rattle.std.specs.Float.{nan}
use Rattle.outcome.specs.Outcome.{Decides}
use Rattle.lists.specs.Lists.{tabulate, product}
use Rattle.lists.specs.Buffer.{left}
use Rattle.layout.specs.declared.MultidimensionalLut.{MultidimensionalLut}
use Rattle.layout.specs.Order.{node_at}
use Rattle.layout.specs.Layout.{record_of, IsLayout, ink_sizes, entries}
use Rattle.lookup.specs.Table.{output}

-- k put in at place p; and the list without what stands at place p
unfoldable pub insert : {A : Type 0} → ℕ → A → List A → List A
insert zero k ks = k ∷ ks
insert (suc p) k [] = k ∷ []
insert (suc p) k (x ∷ ks) = x ∷ insert p k ks

unfoldable pub without : {A : Type 0} → ℕ → List A → List A
without p [] = []
without zero (x ∷ xs) = xs
without (suc p) (x ∷ xs) = x ∷ without p xs

-- ink j's size, counted from 1
abbrev pub size_of : MultidimensionalLut → ℕ → ℕ
size_of lut j = get_or lut.grid_sizes (j - 1) 0

-- the record of the other inks' sizes and the same outputs
abbrev pub fewer : MultidimensionalLut → ℕ → MultidimensionalLut
fewer lut j = record_of (without (j - 1) (take lut.input_inks lut.grid_sizes)) (lut.input_inks - 1) lut.output_inks

-- Ink j is counted from 1, so that it stands at place n - j of a node's coordinates, which come last ink first. Entry e of the slab is output e % m of the
-- smaller grid's node number e / m, and comes from the node with k put in for ink j.
unfoldable pub slab : MultidimensionalLut → List Float → ℕ → ℕ → List Float
slab lut table j k =
    let m = lut.output_inks in
    let others = without (lut.input_inks - j) (ink_sizes lut) in
    tabulate (product others * m) (λ e. output lut table (e % m) (insert (lut.input_inks - j) k (node_at others (e / m))))

-- j is one of n inks
unfoldable pub is_ink : ℕ → ℕ → Bool
is_ink j n = leb 1 j && leb j n

-- 9 not a layout's record, 6 a short table, 11 j is not an ink or n is 1, 12 k is not below ink j's size, 8 a buffer shorter than the slab's total: the first that
-- applies, and 0 where none does
unfoldable pub refusal : Bool → MultidimensionalLut → ℕ → ℕ → ℕ → ℕ → ℕ
refusal laid lut table j k room =
    cond (not laid) 9
    (cond (ltb table (entries lut)) 6
    (cond (not (is_ink j lut.input_inks) || eqb lut.input_inks 1) 11
    (cond (not (ltb k (size_of lut j))) 12
    (cond (ltb room (entries (fewer lut j))) 8
    0))))

-- what `cut_slab` owes: its number r, and the buffer afterwards, `now`, which was `old`. On 0 the slab stands in its first entries, and no others are set
pub record SlabCut (lut : MultidimensionalLut) (table : List Float) (j k : ℕ) (old : List Float) (r : ℕ) (now : List Float) : Type 0 where
  pub laid : Bool
  pub decides : Decides laid (IsLayout lut)
  pub number : r ≡ refusal laid lut (length table) j k (length old)
  pub entries : now ≡ left r (λ e. get_or (slab lut table j k) e nan) (entries (fewer lut j)) old
