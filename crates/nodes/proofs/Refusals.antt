-- The numbers of the node reader from the tests that lead to them, and what a number of 0 says. Assumes nothing.
use Rattle.std.proofs.Common.{◌≡◌, ℕ, ◌+◌, ◌*◌, ◌<◌, ◌≤◌, Bool, true, false, cond, not, List, length, reverse, refl, sym, ap, ◌∙◌, arith}
use Rattle.std.specs.Prelude.{◌↔◌, IsTrue, EachIndex, slice_index}
use lib.Ieee.{Float}
use Rattle.lists.specs.Lists.{last_first}
use Rattle.lists.proofs.Lists.{reverse-all}
use Rattle.layout.specs.declared.MultidimensionalLut.{MultidimensionalLut}
use Rattle.layout.specs.Layout.{ink_sizes, entries}
use Rattle.layout.specs.Order.{index, in_grid}
use Rattle.layout.proofs.Laws.{inks-to}
use Rattle.layout.proofs.Lengths.{Passed, refused-by, passed, others-none}
use Rattle.layout.proofs.Order.{in-grid-all, in-grid-at, in-grid-within, entries-within}
use Rattle.nodes.specs.Node.{node_refusal, NodeRefused}
use Rattle.nodes.specs.Checks.{Checked, IsNode}

-- each coordinate is below its ink's size, or the node is outside
module _ (sizes ks : List ℕ) where
  abbrev Below : Type 0
  Below = EachIndex ks (λ i. slice_index ks i < slice_index sizes i)

  tested : (b t : Bool) → t ≡ in_grid (last_first (length ks) sizes) (last_first (length ks) ks) → (IsTrue b ↔ Below) → b ≡ t
  tested true t is holds = sym (is ∙ in-grid-all sizes ks (length ks) (holds.0 refl))
  tested false true is holds = holds.1 (λ i h. in-grid-at sizes ks (length ks) i (sym is) h)
  tested false false is holds = refl

  grid-tested : (b : Bool) → (IsTrue b ↔ Below) → b ≡ in_grid (last_first (length ks) sizes) (reverse ks)
  grid-tested b holds = tested b _ refl holds ∙ sym (ap (in_grid (last_first (length ks) sizes)) (reverse-all ks))

module _ (lut : MultidimensionalLut) (table : List Float) (coordinates : List ℕ) where
  pub node-refused : (r : ℕ) → Checked lut (length table) (length coordinates) r → (r ≡ 0 → ⊥) → NodeRefused lut table coordinates r
  unfolding node_refusal
  node-refused r checked some =
      record {
        laid = checked.laid;
        decides = checked.decides;
        number = refused-by checked.laid (entries lut) lut.input_inks (length table) (length coordinates) r checked.number some _;
      }

  module _ (checked : Checked lut (length table) (length coordinates) 0) where
    ok : Passed checked.laid (entries lut) lut.input_inks (length table) (length coordinates)
    ok = passed checked.laid (entries lut) lut.input_inks (length table) (length coordinates) 0 0 checked.number refl

    -- as many coordinates as inks
    pub node-counted : length coordinates ≤ 16
    node-counted = omega (arith, ok.as_many, inks-to lut (checked.decides.holds ok.is))

    -- with the coordinates tested too: 10 or 0
    pub node-tested : (inside : Bool) → (IsTrue inside ↔ Below lut.grid_sizes coordinates)
        → NodeRefused lut table coordinates (cond (not inside) 10 0)
    unfolding node_refusal
    node-tested inside holds =
        record {
          laid = checked.laid;
          decides = checked.decides;
          number =
              ap (λ (b : Bool). cond (not b) 10 0)
              (grid-tested lut.grid_sizes coordinates inside holds
              ∙ ap (λ (n : ℕ). in_grid (last_first n lut.grid_sizes) (reverse coordinates)) ok.as_many)
              ∙ ok.next _;
        }

  module _ (refused : NodeRefused lut table coordinates 0) where
    node-passed : Passed refused.laid (entries lut) lut.input_inks (length table) (length coordinates)
    unfolding node_refusal
    node-passed = passed refused.laid (entries lut) lut.input_inks (length table) (length coordinates) 0 _ refused.number refl

    pub is-node : IsNode lut coordinates
    unfolding node_refusal
    is-node =
        record {
          layout = refused.decides.holds node-passed.is;
          as_many = node-passed.as_many;
          inside =
              go (in_grid (ink_sizes lut) (reverse coordinates))
              (others-none refused.laid (entries lut) lut.input_inks (length table) (length coordinates) 0 _ refused.number refl);
        }
      where
        go : (b : Bool) → ◌≡◌ {A = ℕ} (cond (not b) 10 0) 0 → b ≡ true
        go true e = refl
        go false e = absurd (omega arith)

    -- the node's entries stand in the table
    pub node-stands : index (ink_sizes lut) (reverse coordinates) * lut.output_inks + lut.output_inks ≤ length table
    node-stands =
        let within = entries-within (ink_sizes lut) (reverse coordinates) lut.output_inks (in-grid-within _ _ is-node.inside) in
        omega (arith, within, node-passed.enough)
