-- The slab of ink j, counted from 1, at line k: it is the table of a layout with one ink fewer, and holds, in their old order, the entries of the nodes
-- whose coordinate for ink j is k.
-- Assumes nothing.
use Prim.Native.Nat.{ℕ, ◌+◌, ◌-◌, ◌*◌, ◌≤◌, ◌<◌}
use mathlib.Core.Path.{◌≡◌, sym, ap, ◌∙◌, subst}
use mathlib.Core.List.{List}
use native.Mathlib.Nat.{mul_comm, mul_assoc}
use native.Mathlib.Omega.{arith}
use lib.Ieee.{Float, nan}
use lib.ListN.{length, get_or, take}
use Rattle.lists.specs.Lists.{product}
use Rattle.lists.proofs.Lists.{length-tabulate, get_or-tabulate}
use Rattle.layout.specs.declared.MultidimensionalLut.{MultidimensionalLut}
use Rattle.layout.specs.Order.{index, Within}
use Rattle.layout.specs.Layout.{IsLayout, ink_sizes, entries}
use Rattle.layout.proofs.Order.{entries-within, within-length}
use Rattle.layout.proofs.Laws.{ink-count, size-of}
use Rattle.lookup.specs.Table.{output}
use Rattle.grid_slab.specs.Slab.{insert, without, size_of, fewer, slab}
use Rattle.grid_slab.specs.Runs.{run_of, turns_of, place_of, runs_of, cut_entry}
use Rattle.grid_slab.proofs.Without.{insert-without}
use Rattle.grid_slab.proofs.Fewer.{fewer-outputs, fewer-sizes}
use Rattle.grid_slab.proofs.Places.{product_at, product-without, entry_place}
use Rattle.grid_slab.proofs.Inserted.{insert-within, insert-order, without-within, table_at, table-all}

module _ (lut : MultidimensionalLut) (is : IsLayout lut) (two : 2 ≤ lut.input_inks) (j : ℕ) (from : 1 ≤ j) (to : j ≤ lut.input_inks) where
  -- ink j's place among coordinates that come last ink first
  abbrev place : ℕ
  place = lut.input_inks - j

  in_place : place < length (ink_sizes lut)
  in_place = omega (arith, ink-count lut is)

  -- the other inks' sizes are those of the smaller layout
  pub others-are : without place (ink_sizes lut) ≡ ink_sizes (fewer lut j)
  others-are = sym (fewer-sizes lut is two j from to)

  -- and so is their total
  total-is : product (without place (ink_sizes lut)) * lut.output_inks ≡ entries (fewer lut j)
  total-is = λ t. product (others-are t) * sym (fewer-outputs lut is two j from to) t

  size-at : get_or (ink_sizes lut) place 0 ≡ size_of lut j
  size-at = size-of lut is j from to

  -- ---- in runs: each turn of ink j has one of them in the slab, and one for each line in the table
  in-runs : (times : ℕ) → times * product (take place (ink_sizes lut)) * lut.output_inks ≡ times * run_of lut j
  in-runs times =
      let rest = product (take place (ink_sizes lut)) in
      mul_assoc times rest lut.output_inks ∙ ap (λ (x : ℕ). times * x) (mul_comm rest lut.output_inks)

  pub table-turns : entries lut ≡ turns_of lut j * size_of lut j * run_of lut j
  table-turns =
      ap (λ (x : ℕ). x * lut.output_inks) (product_at (ink_sizes lut) place in_place)
      ∙ in-runs (turns_of lut j * get_or (ink_sizes lut) place 0)
      ∙ ap (λ (g : ℕ). turns_of lut j * g * run_of lut j) size-at

  pub slab-turns : entries (fewer lut j) ≡ turns_of lut j * run_of lut j
  slab-turns = sym total-is ∙ ap (λ (x : ℕ). x * lut.output_inks) (product-without (ink_sizes lut) place in_place) ∙ in-runs (turns_of lut j)

  module _ (k : ℕ) (in-grid : k < size_of lut j) where
    below : k < get_or (ink_sizes lut) place 0
    below = omega (arith, size-at)

    pub slab-node : (ks : List ℕ) → Within (ink_sizes (fewer lut j)) ks → Within (ink_sizes lut) (insert place k ks)
    slab-node ks w = insert-within (ink_sizes lut) ks place k in_place below (subst (λ (gs : List ℕ). Within gs ks) (sym others-are) w)

    -- in their old order
    pub slab-order : (ks js : List ℕ) → Within (ink_sizes (fewer lut j)) ks → Within (ink_sizes (fewer lut j)) js
        → index (ink_sizes (fewer lut j)) ks < index (ink_sizes (fewer lut j)) js → index (ink_sizes lut) (insert place k ks) < index (ink_sizes lut) (insert place k js)
    slab-order =
        let whole = ink_sizes lut in
        subst (λ (gs : List ℕ). (ks js : List ℕ) → Within gs ks → Within gs js → index gs ks < index gs js → index whole (insert place k ks) < index whole (insert place k js)) others-are
        (λ ks js. insert-order whole ks js place k in_place below)

    module _ (table : List Float) where
      -- as many entries as the smaller layout asks for
      pub slab-length : length (slab lut table j k) ≡ entries (fewer lut j)
      unfolding slab
      slab-length = length-tabulate _ _ ∙ total-is

      -- output o of a node of the smaller grid is that of the node with k put in for ink j
      pub slab-entry : (ks : List ℕ) (o : ℕ) → Within (ink_sizes (fewer lut j)) ks → o < lut.output_inks
          → output (fewer lut j) (slab lut table j k) o ks ≡ output lut table o (insert place k ks)
      unfolding slab
      slab-entry ks o w h =
          (λ t. get_or (slab lut table j k) (index (sym others-are t) ks * fewer-outputs lut is two j from to t + o) nan)
          ∙ table_at (without place (ink_sizes lut)) lut.output_inks (λ o ks. output lut table o (insert place k ks)) ks o (subst (λ (gs : List ℕ). Within gs ks) (sym others-are) w) h

      -- so each node whose coordinate for ink j is k has its entries there
      pub slab-holds : (ks : List ℕ) (o : ℕ) → Within (ink_sizes lut) ks → get_or ks place 0 ≡ k → o < lut.output_inks
          → output (fewer lut j) (slab lut table j k) o (without place ks) ≡ output lut table o ks
      slab-holds ks o w on h =
          slab-entry (without place ks) o (subst (λ (gs : List ℕ). Within gs (without place ks)) others-are (without-within (ink_sizes lut) ks place w)) h
          ∙ ap (output lut table o) (ap (λ (l : ℕ). insert place l (without place ks)) (sym on) ∙ insert-without place ks 0 (omega (arith, within-length (ink_sizes lut) ks w, in_place)))

      -- what holds of every entry of the table holds of every entry of the slab
      pub slab-all : (P : Float → Type 0) → ((e : ℕ) → e < entries lut → P (get_or table e nan)) → (e : ℕ) → e < entries (fewer lut j) → P (get_or (slab lut table j k) e nan)
      unfolding slab
      slab-all P each e l =
          let others = without place (ink_sizes lut) in
          table-all others lut.output_inks (λ o ks. output lut table o (insert place k ks)) P (λ ks o w h.
          let whole = insert-within (ink_sizes lut) ks place k in_place below w in
          each (index (ink_sizes lut) (insert place k ks) * lut.output_inks + o) (omega (arith, entries-within (ink_sizes lut) (insert place k ks) lut.output_inks whole)))
          e (omega (arith, total-is))

      -- its entries stand in the table in runs
      pub slab-place : (e : ℕ) → e < entries (fewer lut j) → get_or (slab lut table j k) e nan ≡ cut_entry table (runs_of lut j k) e
      unfolding slab
      slab-place e l =
          let m = lut.output_inks in
          let low : e < product (without place (ink_sizes lut)) * m = omega (arith, total-is) in
          get_or-tabulate _ _ e nan low
          ∙ ap (λ (i : ℕ). get_or table i nan) (entry_place (ink_sizes lut) m place k e in_place low)
          ∙ ap (λ (g : ℕ). get_or table (place_of (run_of lut j) g k e) nan) size-at
