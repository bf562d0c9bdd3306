-- The layout of the other inks: it is accepted, and has their sizes; the whole table is its entries for each line of ink j. `laid-fewer`, by sizes and counts.
-- Assumes nothing.
use Prim.Native.Nat.{ℕ, suc, ◌-◌, ◌*◌, ◌/◌, ◌≤◌, ◌<◌}
use mathlib.Core.Path.{◌≡◌, refl, sym, ap, ◌∙◌}
use mathlib.Core.List.{List}
use native.Mathlib.Nat.{mul_comm, mul_assoc, mul-le-mul_right, le-mul_of_pos_right, mul-div_cancel_left}
use native.Mathlib.Decide.{dec_lt}
use native.Mathlib.Omega.{arith}
use lib.Dec.{ltb}
use lib.ListN.{length, get_or, take}
use lib.Seq.{get_or-take, length-take-le}
use Rattle.lists.specs.Lists.{last_first, product}
use Rattle.lists.proofs.Lists.{last-first-same}
use Rattle.layout.specs.declared.MultidimensionalLut.{MultidimensionalLut}
use Rattle.layout.specs.Layout.{record_of, laid_using, laid_of, IsLayout, ink_sizes, entries}
use Rattle.layout.proofs.Parts.{count-is, places-used}
use Rattle.layout.proofs.Accepted.{Accepted, done, laid-accepted}
use Rattle.layout.proofs.Facts.{used_sizes, facts-of, facts-made, layout_of}
use Rattle.layout.proofs.Laws.{inks-to, ink-count, size-from, size-to, size-of}
use Rattle.layout.proofs.BySizes.{laid-inks, laid-outputs, laid-used}
use Rattle.grid_slab.specs.Slab.{without, size_of, fewer}
use Rattle.grid_slab.proofs.Without.{length_without, get_or-without-below, get_or-without-from, without-last-first, every-without, product-part}

module _ (lut : MultidimensionalLut) (is : IsLayout lut) (two : 2 ≤ lut.input_inks) (j : ℕ) (from : 1 ≤ j) (to : j ≤ lut.input_inks) where
  -- the number of the other inks, and their sizes
  abbrev n : ℕ
  n = lut.input_inks - 1

  abbrev others : List ℕ
  others = without (j - 1) (used_sizes lut)

  pub fewer-inks : (fewer lut j).input_inks ≡ n
  unfolding record_of
  fewer-inks = refl

  pub fewer-outputs : (fewer lut j).output_inks ≡ lut.output_inks
  unfolding record_of
  fewer-outputs = refl

  used-length : length (used_sizes lut) ≡ lut.input_inks
  used-length = length-take-le lut.input_inks lut.grid_sizes (omega (arith, inks-to lut is, (facts-of lut is).sixteen))

  others-length : length others ≡ n
  others-length = omega (arith, length_without (j - 1) (used_sizes lut) (omega (arith, used-length)), used-length)

  used-at : (i : ℕ) → i < lut.input_inks → get_or (used_sizes lut) i 0 ≡ get_or lut.grid_sizes i 0
  used-at i h = get_or-take lut.input_inks lut.grid_sizes i 0 h

  bytes : (i : ℕ) → i < n → get_or others i 0 < 256
  bytes i h =
      elim (dec_lt i (j - 1)) [
        | yes l ↦ omega (arith, get_or-without-below (j - 1) (used_sizes lut) i 0 l, used-at i (omega arith), size-to lut is i)
        | no l ↦ omega (arith, get_or-without-from (j - 1) (used_sizes lut) i 0 (omega arith), used-at (suc i) (omega arith), size-to lut is (suc i))
      ]

  -- the whole product is that of the others times ink j's size
  used-product : product (used_sizes lut) ≡ size_of lut j * product others
  used-product =
      product-part (used_sizes lut) (j - 1) (omega (arith, used-length)) ∙ ap (λ (g : ℕ). g * product others) (used-at (j - 1) (omega arith))

  fewer-accepted : Accepted others n lut.output_inks
  fewer-accepted =
      let m = lut.output_inks in
      let ok = (facts-of lut is).accepted in
      let some = size-from lut is (j - 1) (omega arith) in
      let smaller : product others ≤ product (used_sizes lut) = omega (arith, used-product, le-mul_of_pos_right (product others) some, mul_comm (product others) (size_of lut j)) in
      record {
        n-counts = count-is n (omega arith) (omega (arith, inks-to lut is));
        m-counts = ok.m-counts;
        above = every-without (ltb 0) (used_sizes lut) (j - 1) ok.above;
        within = omega (arith, mul-le-mul_right m smaller, ok.within);
      }

  pub fewer-is-layout : IsLayout (fewer lut j)
  fewer-is-layout = layout_of (fewer lut j) (facts-made others n lut.output_inks others-length bytes fewer-accepted)

  -- last ink first
  pub fewer-sizes : ink_sizes (fewer lut j) ≡ without (lut.input_inks - j) (ink_sizes lut)
  unfolding record_of
  fewer-sizes =
      let p = lut.input_inks - j in
      let one_more : suc n ≡ lut.input_inks = omega arith in
      last-first-same n _ others (λ i h. places-used n (λ k. get_or others k 0) 0 i 0 (omega (arith, inks-to lut is)) h)
      ∙ without-last-first (used_sizes lut) n (j - 1) p (omega arith)
      ∙ ap (λ (k : ℕ). without p (last_first k (used_sizes lut))) one_more
      ∙ ap (without p) (last-first-same lut.input_inks (used_sizes lut) lut.grid_sizes used-at)

  -- the whole table has its entries for each line of ink j
  pub fewer-entries : entries lut ≡ size_of lut j * entries (fewer lut j)
  fewer-entries =
      let p = lut.input_inks - j in
      let m = lut.output_inks in
      let rest = product (ink_sizes (fewer lut j)) in
      ap (λ (x : ℕ). x * m) (product-part (ink_sizes lut) p (omega (arith, ink-count lut is)) ∙ (λ i. size-of lut is j from to i * product (sym fewer-sizes i)))
      ∙ mul_assoc (size_of lut j) rest m
      ∙ ap (λ (k : ℕ). size_of lut j * (rest * k)) (sym fewer-outputs)

  -- so they are a line's share of it
  pub fewer-share : 0 < size_of lut j → entries lut / size_of lut j ≡ entries (fewer lut j)
  fewer-share some = ap (λ (t : ℕ). t / size_of lut j) fewer-entries ∙ mul-div_cancel_left (entries (fewer lut j)) some

  -- what is laid out by the other inks' sizes
  pub fewer-laid : laid_using others n lut.output_inks ≡ done (fewer lut j)
  fewer-laid = laid-accepted others n lut.output_inks fewer-accepted

-- by sizes and counts: sizes whose first n - 1 are those of n inks without ink j's give the record of the other inks
pub laid-fewer : (sizes others : List ℕ) (n m j : ℕ) → (laid_of sizes n m).refusal ≡ 0 → length sizes ≡ 16 → IsLayout (laid_of sizes n m).lut
    → 2 ≤ n → 1 ≤ j → j ≤ n → take (n - 1) others ≡ without (j - 1) (take n sizes)
    → laid_of others (n - 1) m ≡ done (fewer (laid_of sizes n m).lut j)
unfolding laid_of
laid-fewer sizes others n m j none sixteen is two from to these =
    let lut = (laid_of sizes n m).lut in
    let inks = laid-inks sizes n m none in
    let outputs = laid-outputs sizes n m none in
    ap (λ (l : List ℕ). laid_using l (n - 1) m) these
    ∙ (λ i. laid_using (without (j - 1) (sym (laid-used sizes n m none sixteen) i)) (sym inks i - 1) (sym outputs i))
    ∙ fewer-laid lut is (omega (arith, inks)) j from (omega (arith, inks))
