-- The rows of a layout that passed every test: what filling each asks, and that they make its record.
-- Assumes nothing.
use Prim.Native.Nat.{ℕ, ◌-◌, ◌*◌, ◌≤◌}
use mathlib.Core.Path.{◌≡◌, sym, ap, ◌∙◌}
use mathlib.Core.List.{List}
use native.Mathlib.Nat.{le_trans, mul-le-mul_left, one-mul}
use lib.Ieee.{Float}
use lib.ListN.{get_or, take}
use Rattle.binary32.specs.Numbers.{plus_zero, of_whole}
use Rattle.lists.specs.Lists.{product}
use Rattle.layout.specs.Layout.{stride, places, record_of, laid_of, IsLayout}
use Rattle.layout.specs.Tested.{Tested, Fills}
use Rattle.layout.specs.declared.MultidimensionalLut.{MultidimensionalLut}
use Rattle.layout.proofs.Parts.{count-from, count-to, places-taken}
use Rattle.layout.proofs.Accepted.{Accepted}
use Rattle.layout.proofs.BySizes.{laid-made, laid-is-layout}

module _ (sizes : List ℕ) (n m : ℕ) (tested : Tested sizes n m 0) where
  made : Accepted (take n sizes) n m × ((laid_of sizes n m).lut ≡ record_of (take n sizes) n m)
  made = laid-made sizes n m (sym tested.number)

  pub tested-layout : IsLayout (laid_of sizes n m).lut
  tested-layout = laid-is-layout sizes n m (sym tested.number) tested.known.sixteen tested.known.bytes

  pub counts-few : (n ≤ 15) × (m ≤ 15)
  counts-few = (count-to n made.0.n-counts, count-to m made.0.m-counts)

  pub outputs-from : 1 ≤ m
  outputs-from = count-from m made.0.m-counts

  -- a row that starts with no more than m stays within the limit
  pub row-fills : (first : ℕ) → first ≤ m → Fills sizes n first
  row-fills first h =
      record {
        known = tested.known;
        few = counts-few.0;
        above = made.0.above;
        within = le_trans (mul-le-mul_left (product (take n sizes)) h) made.0.within;
      }

  pub filling-row : places n (λ i. m * stride (take n sizes) i) 1 ≡ (laid_of sizes n m).lut.grid_filling_size
  unfolding record_of
  filling-row = ap (λ (l : MultidimensionalLut). l.grid_filling_size) (sym made.1)

  pub record_is : (strides filling : List ℕ) (scale : List Float) (own : List ℕ)
      → strides ≡ places n (λ i. 1 * stride (take n sizes) i) 1
      → filling ≡ places n (λ i. m * stride (take n sizes) i) 1
      → scale ≡ places n (λ i. of_whole (get_or sizes i 0 - 1)) plus_zero
      → own ≡ places n (λ i. get_or sizes i 0) 0
      → record { grid_strides = strides; grid_filling_size = filling; grid_scale = scale; grid_sizes = own; input_inks = n; output_inks = m } ≡ (laid_of sizes n m).lut
  unfolding record_of
  record_is strides filling scale own s f c g =
      let ones = s ∙ λ i. places n (λ j. one-mul (stride (take n sizes) j) i) 1 in
      let scales = c ∙ places-taken sizes n (λ k. of_whole (k - 1)) plus_zero in
      let used = g ∙ places-taken sizes n (λ k. k) 0 in
      (λ i. record { grid_strides = ones i; grid_filling_size = f i; grid_scale = scales i; grid_sizes = used i; input_inks = n; output_inks = m })
      ∙ sym made.1
