-- A node's number as a sum over its inks, first ink first. Assumes nothing.
use Rattle.std.proofs.Common.{◌≡◌, ℕ, ◌+◌, ◌*◌, ◌^◌, ◌<◌, ◌≤◌, true, List, length}
use Rattle.std.proofs.Common.{get_or, take, reverse, refl, sym, ap, ◌∙◌, arith, le_trans, lit≤}
use Rattle.std.proofs.lemmas.List.{length-reverse, take_all, take_more, length-take-le, reverse-append}
use native.Mathlib.Nat.{mul-le-mul}
use Rattle.lists.specs.Lists.{last_first}
use Rattle.lists.proofs.Lists.{reverse-all}
use Rattle.layout.specs.declared.MultidimensionalLut.{MultidimensionalLut}
use Rattle.layout.specs.Order.{index, in_grid, strided}
use Rattle.layout.specs.Layout.{limit, ink_sizes}
use Rattle.layout.proofs.Order.{in-grid-within, in-grid-at}
use Rattle.layout.proofs.Laws.{size-to, stride-within, node_of, node-fits}
use Rattle.nodes.specs.Checks.{IsNode}

-- the sum over the first i inks, and no addend is above 2 ^ 40
pub record SoFar (strides ks : List ℕ) (i sum : ℕ) : Type 0 where
  pub is : sum ≡ strided strides (reverse (take i ks))
  pub most : sum ≤ i * 2 ^ 40

pub none_yet : (strides ks : List ℕ) → SoFar strides ks 0 0
unfolding strided
none_yet strides ks = record { is = refl; most = omega arith }

module _ (lut : MultidimensionalLut) (ks : List ℕ) (node : IsNode lut ks) where
  abbrev strides : List ℕ
  strides = lut.grid_strides

  -- a coordinate times a stride
  pub addend : (i : ℕ) → i < length ks → get_or ks i 0 * get_or strides i 0 ≤ 2 ^ 40
  addend i h =
      let inside : in_grid (last_first (length ks) lut.grid_sizes) (last_first (length ks) ks) ≡ true =
      (λ j. in_grid (last_first (node.as_many j) lut.grid_sizes) (sym (reverse-all ks) j)) ∙ node.inside in
      let line = in-grid-at lut.grid_sizes ks (length ks) i inside h in
      let byte : get_or ks i 0 ≤ 255 = omega (arith, line, size-to lut node.layout i) in
      let wide = stride-within lut node.layout i (omega (arith, node.as_many)) in
      le_trans (mul-le-mul {n₂ = 255} {m₂ = limit} byte wide) (lit≤ tt)

  module _ (i sum : ℕ) (so_far : SoFar strides ks i sum) where
    pub one_more : i < length ks → SoFar strides ks (i + 1) (sum + get_or ks i 0 * get_or strides i 0)
    unfolding strided
    one_more h =
        let few : length (reverse (take i ks)) ≡ i = simp length-reverse (length-take-le i ks (omega arith)) in
        record {
          is = rw (take_more ks i 0 h, reverse-append) (rw (few, so_far.is) (omega arith));
          most = omega (arith, addend i h, so_far.most);
        }

    pub all-is : i ≡ length ks → sum ≡ index (ink_sizes lut) (reverse ks)
    all-is all =
        so_far.is ∙ ap (λ (l : List ℕ). strided strides (reverse l)) (take_all i ks (omega arith))
        ∙ node_of lut node.layout (reverse ks) (length-reverse ks ∙ node.as_many)

  pub number-fits : index (ink_sizes lut) (reverse ks) ≤ limit
  number-fits = node-fits lut node.layout (reverse ks) (in-grid-within _ _ node.inside)
