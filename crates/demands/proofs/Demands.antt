-- The lookup's own definition meets demand 3 (`at-a-node`, `on-a-line`), and the cut and the smaller lookup that it speaks of are accepted
-- (`cut-accepted`, `smaller-..`).
-- Assumes nothing.
use Prim.Native.Nat.{ℕ, ◌+◌, ◌-◌, ◌*◌, ◌≤◌, ◌<◌}
use mathlib.Core.Path.{◌≡◌, sym, ap, ◌∙◌, subst}
use mathlib.Core.List.{List, reverse}
use native.Mathlib.Omega.{arith}
use lib.Ieee.{Float, nan, is_nan}
use lib.ListN.{length, get_or}
use Rattle.lists.proofs.Lists.{last-first-at}
use Rattle.binary32.specs.Same.{plain, Same}
use Rattle.binary32.specs.Range.{Share}
use Rattle.layout.specs.declared.MultidimensionalLut.{MultidimensionalLut}
use Rattle.layout.specs.Order.{index, Within}
use Rattle.layout.specs.Layout.{IsLayout, ink_sizes, entries}
use Rattle.layout.proofs.Order.{entries-within}
use Rattle.layout.proofs.Laws.{inks-to, size-from, size-to, ink-count, size-of}
use Rattle.lookup.specs.Lookup.{Grid, lookup, never}
use Rattle.lookup.specs.Table.{output, answer_with, answer_at}
use Rattle.grid_slab.specs.Slab.{insert, without, size_of, fewer, SlabCut}
use Rattle.demands.specs.Demand.{Cuttable, AcceptedInputs, Shares, OnLine, AtANode, OnALine}
use Rattle.demands.proofs.Each.{All, all-last-first, each_map}
use Rattle.demands.proofs.Lookups.{lookup-agrees}
use Rattle.grid_slab.proofs.Without.{length_without, some-without}
use Rattle.demands.proofs.InkCells.{Sized, OnLines, low, low-sound, lows, on-lines, cells-within}
use Rattle.demands.proofs.Rules.{Shared, rules-same}
use Rattle.demands.proofs.Cuts.{line-in, node_in, node-answer, cut-answer}
use Rattle.grid_slab.proofs.Fewer.{fewer-inks, fewer-outputs, fewer-is-layout}
use Rattle.grid_slab.proofs.Slabs.{others-are, slab-entry, slab-all}
use Rattle.grid_slab.proofs.Cutting.{slab-cut-length, passed-done, cut-passed, cut-entry}

sized : (lut : MultidimensionalLut) → IsLayout lut → (i : ℕ) → i < lut.input_inks → Sized (get_or lut.grid_sizes i 0)
sized lut is i h = (size-from lut is i h, omega (arith, size-to lut is i))

pub sizes-are : (lut : MultidimensionalLut) → IsLayout lut → All Sized (ink_sizes lut)
sizes-are lut is = all-last-first Sized lut.input_inks lut.grid_sizes (λ i h. sized lut is i h)

pub few : (lut : MultidimensionalLut) → IsLayout lut → length (ink_sizes lut) ≤ 1000
few lut is = omega (arith, ink-count lut is, inks-to lut is)

pub shared : (lut : MultidimensionalLut) → IsLayout lut → (table : List Float) → Shares table (entries lut)
    → (o : ℕ) → o < lut.output_inks → Shared (ink_sizes lut) (output lut table o)
shared lut is table shares o h ks w = shares _ (omega (arith, entries-within (ink_sizes lut) ks lut.output_inks w))

module _ (lut : MultidimensionalLut) (is : IsLayout lut) (table : List Float) (shares : Shares table (entries lut)) (xs : List Float) (accepted : AcceptedInputs lut xs) where
  -- ---- all inks on grid lines, listed first ink first

  module _ (lines : List ℕ) (len : length lines ≡ lut.input_inks)
      (on : (i : ℕ) → i < lut.input_inks → OnLine lut xs i (get_or lines i 0)) where
    as_many : length lines ≡ length (ink_sizes lut)
    as_many = len ∙ sym (ink-count lut is)

    stand : OnLines (ink_sizes lut) xs lines
    stand =
        on-lines (ink_sizes lut) xs lines (λ p i e.
        let count = ink-count lut is in
        rw (last-first-at lut.input_inks lut.grid_sizes p i (omega arith)) (on i (omega arith)))

    -- the node's entries stand in the table
    pub node-entry : (o : ℕ) → o < lut.output_inks → index (ink_sizes lut) (reverse lines) * lut.output_inks + o < entries lut
    node-entry o h =
        let node = node_in (ink_sizes lut) (sizes-are lut is) (few lut is) (output lut table o) (shared lut is table shares o h) xs lines stand as_many in
        omega (arith, entries-within (ink_sizes lut) (reverse lines) lut.output_inks node)

    node-same : (o : ℕ) → o < lut.output_inks → Same (answer_at lut table xs o) (output lut table o (reverse lines))
    unfolding answer_with
    node-same o h = node-answer (ink_sizes lut) (sizes-are lut is) (few lut is) (output lut table o) (shared lut is table shares o h) xs lines stand as_many

  -- ---- ink j, counted from 1, on grid line k

  module _ (j k : ℕ) (may : Cuttable j lut.input_inks) (on : OnLine lut xs (j - 1) k) where
    from : 4 ≤ j
    from = may.0

    to : j ≤ lut.input_inks
    to = may.1

    in-grid : k < size_of lut j
    in-grid = line-in (size_of lut j) (get_or xs (j - 1) nan) k (sized lut is (j - 1) (omega (arith, from, to))) on

    two : 2 ≤ lut.input_inks
    two = omega (arith, from, to)

    one : 1 ≤ j
    one = omega (arith, from)

    -- the cut is refused for a short table or a short buffer alone
    pub cut-accepted : entries lut ≤ length table → (old : List Float) → entries (fewer lut j) ≤ length old → (r : ℕ) (now : List Float) → SlabCut lut table j k old r now → r ≡ 0
    cut-accepted enough old holds r now cut =
        passed-done lut (length table) j k (length old) r (record { is = is; enough = enough; from = one; to = to; two = two; in-grid = in-grid; holds = holds })
        (record { laid = cut.laid; decides = cut.decides; number = cut.number })

    -- the smaller lookup is accepted: its layout, its table of enough entries, its inputs; and its entries are from 0 to 1 again
    pub smaller-layout : IsLayout (fewer lut j)
    smaller-layout = fewer-is-layout lut is two j one to

    pub smaller-inputs : AcceptedInputs (fewer lut j) (without (j - 1) xs)
    smaller-inputs = (
      omega (arith, fewer-inks lut is two j one to, length_without (j - 1) xs (omega (arith, from, to, accepted.0)), accepted.0),
      some-without is_nan xs (j - 1) accepted.1,
    )

    module _ (old smaller : List Float) (cut : SlabCut lut table j k old 0 smaller) where
      pub smaller-table : entries (fewer lut j) ≤ length smaller
      smaller-table = omega (arith, slab-cut-length lut table j k old 0 smaller cut, (cut-passed lut table j k old smaller cut).holds)

      pub smaller-shares : Shares smaller (entries (fewer lut j))
      smaller-shares e l = subst Share (sym (cut-entry lut table j k old smaller cut e l)) (slab-all lut is two j one to k in-grid table Share shares e l)

      -- each entry is that of the node with k put in for ink j
      smaller-entry : (o : ℕ) → o < lut.output_inks → (ks : List ℕ) → Within (ink_sizes (fewer lut j)) ks → output lut table o (insert (lut.input_inks - j) k ks) ≡ output (fewer lut j) smaller o ks
      smaller-entry o h ks w =
          let m = (fewer lut j).output_inks in
          let below : index (ink_sizes (fewer lut j)) ks * m + o < entries (fewer lut j) = omega (arith, entries-within (ink_sizes (fewer lut j)) ks m w, fewer-outputs lut is two j one to) in
          sym (cut-entry lut table j k old smaller cut _ below ∙ slab-entry lut is two j one to k in-grid table ks o w h)

      line_same : (o : ℕ) → o < lut.output_inks → Same (answer_at lut table xs o) (answer_at (fewer lut j) smaller (without (j - 1) xs) o)
      unfolding answer_with
      line_same o h =
          let p = lut.input_inks - j in
          let ys = without (j - 1) xs in
          let size = size-of lut is j one to in
          let f : Grid = λ ks. output lut table o (insert p k ks) in
          let others = ink_sizes (fewer lut j) in
          let g : Grid = output (fewer lut j) smaller o in
          let laid = smaller-layout in
          let fits : o < (fewer lut j).output_inks = omega (arith, fewer-outputs lut is two j one to) in
          cut-answer (ink_sizes lut) (sizes-are lut is) (few lut is) (output lut table o) (shared lut is table shares o h) xs p (j - 1) k (omega (arith, from, to, ink-count lut is)) (omega (arith, from)) (rw size on)
          ∙ ap (λ (gs : List ℕ). plain (lookup f (lows gs ys))) (others-are lut is two j one to)
          ∙ ap plain (lookup-agrees never f g (lows others ys)
          (each_map (Within others) _ (lows others ys) (smaller-entry o h)
          (cells-within low low-sound others ys (sizes-are (fewer lut j) laid))))
          ∙ sym (rules-same others (sizes-are (fewer lut j) laid) (few (fewer lut j) laid) g (shared (fewer lut j) laid smaller smaller-shares o fits) ys)

-- ---- demand 3

pub at-a-node : AtANode answer_at
at-a-node = node-same

pub on-a-line : OnALine answer_at
on-a-line = line_same
