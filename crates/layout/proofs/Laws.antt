-- What an accepted layout promises. The lookups rest on these laws and on nothing else of the layout.
-- Assumes nothing.
use Prim.Native.Nat.{ℕ, suc, ◌-◌, ◌*◌, ◌≤◌, ◌<◌}
use mathlib.Core.Path.{◌≡◌, sym, ap, ◌∙◌, subst}
use mathlib.Core.Bool.{true}
use mathlib.Core.List.{List}
use native.Mathlib.Nat.{le_refl, le_of_suc-le-suc, le-mul_of_pos_right, mul-one, one-mul, mul_comm, mul_assoc}
use native.Mathlib.Omega.{arith}
use lib.Dec.{ltb}
use lib.Ieee.{nan}
use lib.ListN.{length, get_or, take}
use lib.Seq.{get_or-take, length-take-le, drop-cons}
use borrow.Author.Tests.{lt-ltb}
use Rattle.binary32.specs.Numbers.{of_whole}
use Rattle.lists.specs.Lists.{every, product}
use Rattle.lists.proofs.Lists.{bytes-at, length-last-first, last-first-at, every-last-first, reverse-first, product-last-first}
use Rattle.layout.specs.Order.{index, Within, strided, Steps, Reaches}
use Rattle.layout.specs.Layout.{limit, stride, IsLayout, ink_sizes, entries}
use Rattle.layout.specs.declared.MultidimensionalLut.{MultidimensionalLut}
use Rattle.layout.proofs.Parts.{count-from, count-to, product-fits}
use Rattle.layout.proofs.Facts.{Facts, used_sizes, facts-of, used-at}
use Rattle.layout.proofs.Order.{strided-index, steps-after, steps-at, entries-within, within-length}

module _ (lut : MultidimensionalLut) (is : IsLayout lut) where
  -- it is the record of its own sizes and counts, which are accepted
  facts : Facts lut
  facts = facts-of lut is

  pub inks-from : 1 ≤ lut.input_inks
  inks-from = count-from lut.input_inks facts.accepted.n-counts

  pub inks-to : lut.input_inks ≤ 15
  inks-to = count-to lut.input_inks facts.accepted.n-counts

  pub outputs-from : 1 ≤ lut.output_inks
  outputs-from = count-from lut.output_inks facts.accepted.m-counts

  pub outputs-to : lut.output_inks ≤ 15
  outputs-to = count-to lut.output_inks facts.accepted.m-counts

  -- the sizes of the inks in use are among the sixteen
  few : lut.input_inks ≤ length lut.grid_sizes
  few = omega (arith, inks-to, facts.sixteen)

  -- the entries by the sizes in use, first ink first
  pub entries-total : entries lut ≡ product (used_sizes lut) * lut.output_inks
  entries-total = ap (λ (x : ℕ). x * lut.output_inks) (product-last-first lut.input_inks lut.grid_sizes few)

  pub entries_fit : entries lut ≤ limit
  entries_fit = omega (arith, entries-total, facts.accepted.within)

  pub ink-count : length (ink_sizes lut) ≡ lut.input_inks
  ink-count = length-last-first lut.input_inks lut.grid_sizes

  -- ---- each ink's size

  pub size-from : (i : ℕ) → i < lut.input_inks → 1 ≤ get_or lut.grid_sizes i 0
  size-from i h = (used-at lut facts i h).above

  pub size-to : (i : ℕ) → get_or lut.grid_sizes i 0 ≤ 255
  size-to i = le_of_suc-le-suc (bytes-at lut.grid_sizes facts.bytes i)

  pub sizes-above : every (ltb 0) (ink_sizes lut) ≡ true
  sizes-above = every-last-first (ltb 0) lut.input_inks lut.grid_sizes (λ i h. lt-ltb 0 _ (size-from i h))

  -- ink j's, counted from 1
  pub size-of : (j : ℕ) → 1 ≤ j → j ≤ lut.input_inks → get_or (ink_sizes lut) (lut.input_inks - j) 0 ≡ get_or lut.grid_sizes (j - 1) 0
  size-of j from to = last-first-at lut.input_inks lut.grid_sizes (lut.input_inks - j) (j - 1) (omega arith)

  -- ---- the record's places in use

  pub scale_at : (i : ℕ) → i < lut.input_inks → get_or lut.grid_scale i nan ≡ of_whole (get_or lut.grid_sizes i 0 - 1)
  scale_at i h = (used-at lut facts i h).scale-is

  stride-at : (i : ℕ) → i < lut.input_inks → get_or lut.grid_strides i 0 ≡ stride (used_sizes lut) i
  stride-at i h = (used-at lut facts i h).stride-is

  filling-at : (i : ℕ) → i < lut.input_inks → get_or lut.grid_filling_size i 0 ≡ lut.output_inks * stride (used_sizes lut) i
  filling-at i h = (used-at lut facts i h).filling-is

  -- every stride and filling size in use is within the limit
  pub stride-within : (i : ℕ) → i < lut.input_inks → get_or lut.grid_strides i 0 ≤ limit
  stride-within i h =
      let at = stride-at i h in
      let one = mul-one (stride (used_sizes lut) i) in
      omega (arith, product-fits (used_sizes lut) (suc i) 1 lut.output_inks facts.accepted.above outputs-from facts.accepted.within)

  pub filling-within : (i : ℕ) → i < lut.input_inks → get_or lut.grid_filling_size i 0 ≤ limit
  filling-within i h =
      let at = filling-at i h in
      let turned = mul_comm lut.output_inks (stride (used_sizes lut) i) in
      omega (arith, product-fits (used_sizes lut) (suc i) lut.output_inks lut.output_inks facts.accepted.above (le_refl _) facts.accepted.within)

  -- where they are c times the products of the sizes after each ink, the numbers are strides
  steps_of : (c : ℕ) (strides : List ℕ) → ((i : ℕ) → i < lut.input_inks → get_or strides i 0 ≡ c * stride (used_sizes lut) i) → Steps strides (ink_sizes lut) c
  steps_of c strides at =
      subst (λ (l : List ℕ). Steps strides l c) (reverse-first lut.input_inks lut.grid_sizes few)
      (steps-after (used_sizes lut) strides c (λ i h. at i (omega (arith, length-take-le lut.input_inks lut.grid_sizes few))))

  -- the strides count nodes
  pub strides-step : Steps lut.grid_strides (ink_sizes lut) 1
  strides-step = steps_of 1 lut.grid_strides (λ i h. stride-at i h ∙ sym (one-mul _))

  -- the filling sizes count table entries
  pub filling-steps : Steps lut.grid_filling_size (ink_sizes lut) lut.output_inks
  filling-steps = steps_of lut.output_inks lut.grid_filling_size filling-at

  -- that of ink j, counted from 1: the entries of the inks after it
  pub filling-after : (j : ℕ) → 1 ≤ j → j ≤ lut.input_inks
      → get_or lut.grid_filling_size (j - 1) 0 ≡ lut.output_inks * product (take (lut.input_inks - j) (ink_sizes lut))
  filling-after j from to = steps-at lut.grid_filling_size (ink_sizes lut) lut.output_inks (lut.input_inks - j) (j - 1) filling-steps (omega (arith, ink-count))

  -- the first ink's filling size times its size is the whole table
  pub first-filling : get_or lut.grid_filling_size 0 0 * get_or lut.grid_sizes 0 0 ≡ entries lut
  unfolding product
  first-filling =
      let n = lut.input_inks in
      let m = lut.output_inks in
      let g = get_or lut.grid_sizes 0 0 in
      let rest = stride (used_sizes lut) 0 in
      let whole : product (used_sizes lut) ≡ g * rest =
      ap product (drop-cons (used_sizes lut) 0 0 (omega (arith, inks-from, length-take-le n lut.grid_sizes few)))
      ∙ ap (λ (x : ℕ). x * rest) (get_or-take n lut.grid_sizes 0 0 inks-from) in
      ap (λ (x : ℕ). x * g) (filling-at 0 inks-from)
      ∙ mul_assoc m rest g
      ∙ mul_comm m (rest * g)
      ∙ ap (λ (x : ℕ). x * m) (mul_comm rest g ∙ sym whole)
      ∙ sym entries-total

  -- ---- the nodes

  -- the strides give the number of the node in ICC.1's order
  pub node_of : (ks : List ℕ) → length ks ≡ lut.input_inks → strided lut.grid_strides ks ≡ index (ink_sizes lut) ks
  node_of ks e = strided-index lut.grid_strides (ink_sizes lut) ks 1 strides-step (e ∙ sym ink-count) ∙ one-mul _

  -- the filling sizes give its first entry: the node's number times m
  pub entry_of : (ks : List ℕ) → length ks ≡ lut.input_inks → strided lut.grid_filling_size ks ≡ index (ink_sizes lut) ks * lut.output_inks
  entry_of ks e = strided-index lut.grid_filling_size (ink_sizes lut) ks lut.output_inks filling-steps (e ∙ sym ink-count) ∙ mul_comm _ _

  -- the m entries of every node stand in the table
  pub table-reaches : Reaches lut.grid_filling_size (ink_sizes lut) lut.output_inks (entries lut)
  table-reaches ks w =
      let at = entry_of ks (within-length (ink_sizes lut) ks w ∙ ink-count) in
      omega (arith, entries-within (ink_sizes lut) ks lut.output_inks w)

  -- a node's number fits 32 bits
  pub node-fits : (ks : List ℕ) → Within (ink_sizes lut) ks → index (ink_sizes lut) ks ≤ limit
  node-fits ks w =
      let times = le-mul_of_pos_right (index (ink_sizes lut) ks) outputs-from in
      omega (arith, entries-within (ink_sizes lut) ks lut.output_inks w, entries_fit)
