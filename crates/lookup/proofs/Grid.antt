-- The inks of an accepted layout, with their filling sizes: they lie within the table, and their answers are those of the table. Assumes
-- nothing.
use Prim.Native.Nat.{ℕ, zero, suc, ◌+◌, ◌*◌, ◌≤◌}
use native.Mathlib.Omega.{arith}
use mathlib.Core.Path.{◌≡◌, refl, sym, ap, ap₂, subst, ◌∙◌}
use mathlib.Core.Bool.{Bool}
use mathlib.Core.List.{List, [], ◌∷◌}
use lib.Dec.{ltb}
use lib.Ieee.{Float, nan}
use lib.ListN.{length, get_or}
use borrow.Author.Tests.{lt-ltb}
use Rattle.lists.specs.Lists.{last_first, product}
use Rattle.lists.specs.Buffer.{written}
use Rattle.lists.proofs.Lists.{length-last-first, every-last-first}
use Rattle.lists.proofs.Buffer.{written_same}
use Rattle.cell.specs.declared.Cell.{Cell}
use Rattle.cell.specs.Rule.{ink_cell, scale}
use Rattle.layout.specs.declared.MultidimensionalLut.{MultidimensionalLut}
use Rattle.layout.specs.Layout.{IsLayout, entries}
use Rattle.layout.specs.Order.{Steps}
use Rattle.layout.proofs.Laws.{inks-from, inks-to, outputs-to, size-from, size-to, filling-within, filling-steps, first-filling}
use Rattle.lookup.specs.Table.{cells, answer_with}
use Rattle.lookup.specs.Idle.{weights_of}
use Rattle.lookup.specs.Places.{reach, strides, scaled, answer_by, first_inks, Promised, answer_in}
use Rattle.lookup.proofs.Reach.{reach-total}
use Rattle.lookup.proofs.Distances.{as_many, answers-law}

scaled-weights : (ss : List ℕ) (cs : List Cell) → length ss ≡ length cs → weights_of (scaled ss cs) ≡ weights_of cs
scaled-weights [] [] h = refl
scaled-weights [] (c ∷ cs) h = absurd (omega arith)
scaled-weights (s ∷ ss) [] h = absurd (omega arith)
scaled-weights (s ∷ ss) (c ∷ cs) h = ap (λ (ws : List Float). c.w ∷ ws) (scaled-weights ss cs (omega arith))

module _ (filling sizes : List ℕ) (xs : List Float) where
  -- the filling sizes are the strides of the sizes
  first-inks : (n m : ℕ) → Steps filling (last_first n sizes) m
      → first_inks filling sizes xs n ≡ scaled (strides m (last_first n sizes)) (cells (last_first n sizes) xs)
  unfolding Steps cells last_first
  first-inks zero m steps = refl
  first-inks (suc n) m steps =
      let g = get_or sizes n 0 in
      let count = length-last-first n sizes in
      let last = length (last_first n sizes) in
      ap₂ (λ (c : Cell) (cs : List Cell). c ∷ cs)
      ((λ i. scale (get_or filling (sym count i) 0) (ink_cell (sym count i) g (get_or xs (sym count i) nan)))
      ∙ ap (λ (s : ℕ). scale s (ink_cell last g (get_or xs last nan))) steps.0)
      (first-inks n (m * g) steps.1)

module _ (filling sizes : List ℕ) (xs : List Float) (m : ℕ) (laid : Promised filling sizes (length xs) m) (table : List Float)
    (enough : product (last_first (length xs) sizes) * m ≤ length table) where
  abbrev inks : ℕ → List Cell
  inks = first_inks filling sizes xs

  abbrev gs : List ℕ
  gs = last_first (length xs) sizes

  -- all n inks
  module _ (n : ℕ) (is : length xs ≡ n) where
    inks-are : inks n ≡ scaled (strides m gs) (cells gs xs)
    inks-are = ap inks (sym is) ∙ first-inks filling sizes xs (length xs) m laid.steps

    reaches : reach (inks n) + m ≤ length table
    reaches =
        let some = every-last-first (ltb 0) (length xs) sizes (λ i h. lt-ltb 0 _ (laid.above i h)) in
        let bytes = every-last-first (λ k. ltb k 256) (length xs) sizes (λ i h. lt-ltb _ 256 (laid.narrow i h).1) in
        let whole = reach-total gs xs m some bytes in
        let same = ap reach inks-are in
        omega (arith, whole, same, enough)

    answers : (skip : Float → Bool) (o : ℕ) → answer_by skip table (inks n) o ≡ answer_in skip gs m table xs o
    answers skip o = ap (λ (cs : List Cell). answer_by skip table cs o) inks-are ∙ answers-law skip gs m table xs o

    pub inks-reach : (cs : List Cell) → cs ≡ inks n → reach cs + m ≤ length table
    inks-reach cs e = rw e reaches

    pub inks-done : (skip : Float → Bool) (cs : List Cell) → cs ≡ inks n → (old now : List Float)
        → now ≡ written (answer_by skip table cs) m old → now ≡ written (answer_in skip gs m table xs) m old
    inks-done skip cs e old now w = w ∙ written_same _ _ m old (λ o h. ap (λ (l : List Cell). answer_by skip table l o) e ∙ answers skip o)

    -- the distances leave the weights as they are
    pub inks-weights : weights_of (inks n) ≡ weights_of (cells gs xs)
    inks-weights = ap weights_of inks-are ∙ scaled-weights (strides m gs) (cells gs xs) (as_many m gs xs)

-- ---- what a layout's record promises

pub laid-of : (lut : MultidimensionalLut) → IsLayout lut → Promised lut.grid_filling_size lut.grid_sizes lut.input_inks lut.output_inks
laid-of lut is =
    record {
      inks-from = inks-from lut is;
      inks-to = inks-to lut is;
      outputs-to = outputs-to lut is;
      above = size-from lut is;
      narrow = λ i h. (omega (arith, filling-within lut is i h), omega (arith, size-to lut is i));
      steps = filling-steps lut is;
      whole = first-filling lut is;
    }

-- ---- the inks of a layout's record, in a table of all its entries

module _ (lut : MultidimensionalLut) (is : IsLayout lut) (xs : List Float) (as_many : length xs ≡ lut.input_inks) (table : List Float)
    (enough : entries lut ≤ length table)
    (cs : List Cell) (inks-are : cs ≡ first_inks lut.grid_filling_size lut.grid_sizes xs (length xs)) where
  abbrev by-inputs : ℕ → Type 0
  by-inputs n =
      Promised lut.grid_filling_size lut.grid_sizes n lut.output_inks
      × (product (last_first n lut.grid_sizes) * lut.output_inks ≤ length table)

  ready : by-inputs (length xs)
  ready = subst by-inputs (sym as_many) (laid-of lut is, enough)

  pub record-reach : reach cs + lut.output_inks ≤ length table
  record-reach = inks-reach _ _ xs _ ready.0 table ready.1 _ refl cs inks-are

  pub record-done : (skip : Float → Bool) (old now : List Float) → now ≡ written (answer_by skip table cs) lut.output_inks old
      → now ≡ written (answer_with skip lut table xs) lut.output_inks old
  unfolding answer_with
  record-done skip old now w =
      inks-done _ _ xs _ ready.0 table ready.1 _ refl skip cs inks-are old now w
      ∙ ap (λ (n : ℕ). written (answer_in skip (last_first n lut.grid_sizes) lut.output_inks table xs) lut.output_inks old) as_many
