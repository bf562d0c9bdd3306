-- What a record tells by itself: whether an accepted layout gave it, and what then stands at each place.
-- Assumes nothing.
use Prim.Native.Nat.{ℕ, ◌-◌, ◌*◌, ◌≤◌, ◌<◌}
use mathlib.Core.Path.{◌≡◌, sym, ap, ◌∙◌, subst⁻¹}
use mathlib.Core.Bool.{true}
use mathlib.Core.List.{List}
use native.Mathlib.Decide.{dec_lt}
use native.Mathlib.Omega.{arith}
use lib.Dec.{T}
use lib.Ieee.{Float, nan}
use lib.ListN.{length, get_or, take}
use lib.Seq.{get_or-take, length-take-le}
use lib.Pow.{are_bytes}
use borrow.Author.Tests.{lt-ltb, le-ltb}
use Rattle.binary32.specs.Numbers.{plus_zero, of_whole}
use Rattle.lists.proofs.Lists.{first-every, bytes-at, length-tabulate, tabulate-bytes}
use Rattle.layout.specs.Layout.{limit, total, is_count, stride, place, record_of, laid_of, IsLayout}
use Rattle.layout.specs.Places.{UsedAt, UnusedAt}
pub use Rattle.layout.specs.Places.{used_sizes}
use Rattle.layout.specs.declared.MultidimensionalLut.{MultidimensionalLut}
use Rattle.layout.proofs.Parts.{count-to, places-used, places-unused, places-are, above_at, sizes-back}
use Rattle.layout.proofs.Accepted.{Accepted, done, accepted-of, laid-accepted}

-- its sizes are sixteen bytes, they and its counts are accepted, and it is the record of them
pub record Facts (lut : MultidimensionalLut) : Type 0 where
  pub sixteen : length lut.grid_sizes ≡ 16
  pub bytes : T (are_bytes lut.grid_sizes)
  pub accepted : Accepted (used_sizes lut) lut.input_inks lut.output_inks
  pub made : lut ≡ record_of (used_sizes lut) lut.input_inks lut.output_inks

-- the record of accepted sizes and counts
pub facts-made : (used : List ℕ) (n m : ℕ) → length used ≡ n → ((i : ℕ) → i < n → get_or used i 0 < 256) → Accepted used n m → Facts (record_of used n m)
unfolding record_of
facts-made used n m len bytes ok =
    let size : ℕ → ℕ = λ i. get_or used i 0 in
    let same = sizes-back used n len (omega (arith, count-to n ok.n-counts)) in
    record {
      sixteen = length-tabulate 16 (place n size 0);
      bytes =
          tabulate-bytes 16 (place n size 0) (λ i.
          elim (dec_lt i n) [
            | yes h ↦ simp (lt-ltb i n h) (bytes i h)
            | no h ↦ let past : n ≤ i = omega arith in simp (le-ltb i n past) (omega arith)
          ]);
      accepted = subst⁻¹ (λ (l : List ℕ). Accepted l n m) same ok;
      made = ap (λ (l : List ℕ). record_of l n m) (sym same);
    }

pub facts-of : (lut : MultidimensionalLut) → IsLayout lut → Facts lut
unfolding laid_of
facts-of lut is =
    let n = is.n in
    let used = take n is.sizes in
    let ok = accepted-of used n is.m lut is.accepted in
    let few : n ≤ length is.sizes = omega (arith, count-to n ok.0.n-counts, is.sixteen) in
    let bytes : (i : ℕ) → i < n → get_or used i 0 < 256 = λ i h. rw (get_or-take n is.sizes i 0 h) (bytes-at is.sizes is.bytes i) in
    subst⁻¹ Facts ok.1 (facts-made used n is.m (length-take-le n is.sizes few) bytes ok.0)

-- its own sizes and counts give it again
pub laid-again : (lut : MultidimensionalLut) → Facts lut → laid_of lut.grid_sizes lut.input_inks lut.output_inks ≡ done lut
unfolding laid_of
laid-again lut facts = laid-accepted (used_sizes lut) lut.input_inks lut.output_inks facts.accepted ∙ ap done (sym facts.made)

pub layout_of : (lut : MultidimensionalLut) → Facts lut → IsLayout lut
layout_of lut facts =
    record {
      sizes = lut.grid_sizes;
      n = lut.input_inks;
      m = lut.output_inks;
      sixteen = facts.sixteen;
      bytes = facts.bytes;
      accepted = laid-again lut facts;
    }

-- ---- the places of such a record

module _ (lut : MultidimensionalLut) where
  abbrev fillings : ℕ → ℕ
  fillings i = lut.output_inks * stride (used_sizes lut) i

  abbrev sizes : ℕ → ℕ
  sizes i = get_or (used_sizes lut) i 0

  abbrev scales : ℕ → Float
  scales i = of_whole (sizes i - 1)

  -- ink i's size, and its scale
  size_is : (i : ℕ) → i < lut.input_inks → sizes i ≡ get_or lut.grid_sizes i 0
  size_is i h = get_or-take lut.input_inks lut.grid_sizes i 0 h

  scale-is : (i : ℕ) → i < lut.input_inks → scales i ≡ of_whole (get_or lut.grid_sizes i 0 - 1)
  scale-is i h = ap (λ (g : ℕ). of_whole (g - 1)) (size_is i h)

  module _ (facts : Facts lut) where
    few : lut.input_inks ≤ 16
    few = omega (arith, count-to _ facts.accepted.n-counts)

    pub used-at : (i : ℕ) → i < lut.input_inks → UsedAt lut i
    unfolding record_of
    used-at i h =
        let n = lut.input_inks in
        record {
          above = above_at lut.grid_sizes n (omega (arith, few, facts.sixteen)) facts.accepted.above i h;
          stride-is = ap (λ (l : MultidimensionalLut). get_or l.grid_strides i 0) facts.made ∙ places-used n (stride (used_sizes lut)) 1 i 0 few h;
          filling-is = ap (λ (l : MultidimensionalLut). get_or l.grid_filling_size i 0) facts.made ∙ places-used n fillings 1 i 0 few h;
          scale-is = ap (λ (l : MultidimensionalLut). get_or l.grid_scale i nan) facts.made ∙ places-used n scales plus_zero i nan few h ∙ scale-is i h;
        }

    pub unused-at : (i : ℕ) → i < 16 → lut.input_inks ≤ i → UnusedAt lut i
    unfolding record_of
    unused-at i h past =
        let n = lut.input_inks in
        record {
          stride-is = ap (λ (l : MultidimensionalLut). get_or l.grid_strides i 0) facts.made ∙ places-unused n (stride (used_sizes lut)) 1 i 0 h past;
          filling-is = ap (λ (l : MultidimensionalLut). get_or l.grid_filling_size i 0) facts.made ∙ places-unused n fillings 1 i 0 h past;
          scale-is = ap (λ (l : MultidimensionalLut). get_or l.grid_scale i nan) facts.made ∙ places-unused n scales plus_zero i nan h past;
          size_is = ap (λ (l : MultidimensionalLut). get_or l.grid_sizes i 0) facts.made ∙ places-unused n sizes 0 i 0 h past;
        }

  -- what is known of a record's arrays: sixteen places each, and the sizes are bytes
  pub record Arrays : Type 0 where
    pub strides : length lut.grid_strides ≡ 16
    pub filling : length lut.grid_filling_size ≡ 16
    pub scale : length lut.grid_scale ≡ 16
    pub sizes : length lut.grid_sizes ≡ 16
    pub bytes : T (are_bytes lut.grid_sizes)

  -- and a record with those places, with its counts accepted and its total within the limit, is such a record
  pub facts-are : Arrays → is_count lut.input_inks ≡ true → is_count lut.output_inks ≡ true → total (used_sizes lut) lut.output_inks ≤ limit
      → ((i : ℕ) → i < lut.input_inks → UsedAt lut i) → ((i : ℕ) → i < 16 → lut.input_inks ≤ i → UnusedAt lut i)
      → Facts lut
  unfolding record_of
  facts-are arrays n-counts m-counts within used unused =
      let n = lut.input_inks in
      let few : n ≤ 16 = omega (arith, count-to n n-counts) in
      let above = first-every _ lut.grid_sizes n (omega (arith, arrays.sizes)) (λ i h. lt-ltb 0 _ (used i h).above) in
      let s = places-are n (stride (used_sizes lut)) 1 lut.grid_strides 0 arrays.strides few (λ i h. (used i h).stride-is) (λ i h l. (unused i h l).stride-is) in
      let f = places-are n fillings 1 lut.grid_filling_size 0 arrays.filling few (λ i h. (used i h).filling-is) (λ i h l. (unused i h l).filling-is) in
      let c = places-are n scales plus_zero lut.grid_scale nan arrays.scale few (λ i h. (used i h).scale-is ∙ sym (scale-is i h)) (λ i h l. (unused i h l).scale-is) in
      let g = places-are n sizes 0 lut.grid_sizes 0 arrays.sizes few (λ i h. sym (size_is i h)) (λ i h l. (unused i h l).size_is) in
      record {
        sixteen = arrays.sizes;
        bytes = arrays.bytes;
        accepted = record { n-counts = n-counts; m-counts = m-counts; above = above; within = within };
        made = λ i. record { grid_strides = s i; grid_filling_size = f i; grid_scale = c i; grid_sizes = g i; input_inks = n; output_inks = lut.output_inks };
      }
