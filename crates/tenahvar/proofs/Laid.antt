-- A layout that gives 0: what the node reader and a cut say of that record is what the caller through C is owed.
-- Assumes nothing.
use Prim.Native.Nat.{ℕ, ◌*◌}
use mathlib.Core.Path.{◌≡◌, refl, sym, ap, ◌∙◌}
use mathlib.Core.Bool.{Bool, true}
use mathlib.Core.List.{List, reverse}
use lib.Ieee.{Float}
use lib.ListN.{length}
use Rattle.std.specs.Prelude.{Result, Ok, Err}
use Rattle.outcome.specs.declared.Refusal.{Refusal}
use Rattle.outcome.specs.Refused.{number_of, number_in}
use Rattle.outcome.specs.Outcome.{or_else, on_done}
use Rattle.outcome.proofs.Refused.{kept, given}
use Rattle.layout.specs.declared.MultidimensionalLut.{MultidimensionalLut}
use Rattle.layout.specs.Order.{index}
use Rattle.layout.specs.Layout.{Laid, laid_of, laid_in, refused_by, IsLayout, LaidBy, ink_sizes}
use Rattle.layout.proofs.BySizes.{laid-outputs}
use Rattle.nodes.specs.Node.{node_refusal, NodeRefused, NodePlaced}
use Rattle.tenahvar.specs.Node.{node_number, NodeFound}

-- the number of a record that is none
pub refused-as : (e : Refusal) (k : ℕ) → (laid_in (Err e)).refusal ≡ k → number_of e ≡ k
unfolding refused_by
refused-as e k is = is

-- the number that is answered is the record's
pub number-of-laid : (answer : Result MultidimensionalLut Refusal) → number_in answer ≡ (laid_in answer).refusal
unfolding refused_by
number-of-laid (Ok lut) = refl
number-of-laid (Err e) = refl

-- a refused layout's number, and an accepted one's
pub refused-number : (sizes : List ℕ) (n m : ℕ) (e : Refusal) → LaidBy sizes n m (laid_in (Err e)) → number_of e ≡ (laid_of sizes n m).refusal
unfolding refused_by
refused-number sizes n m e by = ap (λ (l : Laid). l.refusal) by.answer

pub accepted-number : (sizes : List ℕ) (n m : ℕ) (lut : MultidimensionalLut) → LaidBy sizes n m (laid_in (Ok lut)) → 0 ≡ (laid_of sizes n m).refusal
accepted-number sizes n m lut by = ap (λ (l : Laid). l.refusal) by.answer

module _ (sizes : List ℕ) (n m : ℕ) (laid : Laid) (answer : laid ≡ laid_of sizes n m) (no-refusal : laid.refusal ≡ 0) where
  accepted : (laid_of sizes n m).refusal ≡ 0
  accepted = ap (λ (l : Laid). l.refusal) (sym answer) ∙ no-refusal

  -- what the record refuses is refused after the layout
  after-layout : (refuses : MultidimensionalLut → ℕ) (r : ℕ) → r ≡ refuses laid.lut → r ≡ or_else (laid_of sizes n m).refusal (refuses (laid_of sizes n m).lut)
  after-layout refuses r is = is ∙ ap (λ (k : ℕ). or_else k (refuses laid.lut)) (sym no-refusal) ∙ ap (λ (l : Laid). or_else l.refusal (refuses l.lut)) answer

  -- the node reader by the record
  module _ (is : IsLayout laid.lut) (table : List Float) (coordinates : List ℕ) (r : ℕ) (read : NodeRefused laid.lut table coordinates r) where
    plain : r ≡ node_refusal true laid.lut (length table) coordinates
    plain = read.number ∙ ap (λ (b : Bool). node_refusal b laid.lut (length table) coordinates) (read.decides.found is)

    node-number : r ≡ node_number sizes n m (length table) coordinates
    node-number = after-layout (λ lut. node_refusal true lut (length table) coordinates) r plain

    pub node-refused : (old : ℕ) → (r ≡ 0 → ⊥) → NodeFound sizes n m table coordinates old r old
    node-refused old refused = record { number = node-number; offset = kept _ _ _ refused node-number }

    pub node-found : r ≡ 0 → (first : ℕ) → NodePlaced laid.lut table coordinates first → (old : ℕ) → NodeFound sizes n m table coordinates old 0 first
    node-found none first placed old =
        let number = sym none ∙ node-number in
        let place : Laid → ℕ = λ l. index (ink_sizes l.lut) (reverse coordinates) * l.lut.output_inks in
        let read_as : Bool → ℕ = λ b. on_done (node_refusal b laid.lut (length table) coordinates) (place laid) 0 in
        record {
          number = number;
          offset =
              placed.offset
              ∙ ap read_as (placed.decides.found is)
              ∙ sym (given _ (place laid) 0 (sym none ∙ plain))
              ∙ ap place answer
              ∙ ap (λ (k : ℕ). index (ink_sizes (laid_of sizes n m).lut) (reverse coordinates) * k) (laid-outputs sizes n m accepted)
              ∙ given _ _ old number;
        }
