-- An accepted layout by its sizes and counts: what is owed after it is what is owed by its record. Assumes nothing.
use Prim.Native.Nat.{ℕ, ◌*◌, ◌<◌}
use mathlib.Core.Path.{◌≡◌, sym, ap, ◌∙◌, subst}
use mathlib.Core.Bool.{Bool, true, cond}
use mathlib.Core.List.{List}
use lib.Dec.{ltb}
use lib.Ieee.{Float}
use lib.ListN.{length, get_or}
use Rattle.outcome.specs.Outcome.{or_else, on_done}
use Rattle.lists.specs.Lists.{last_first, product}
use Rattle.lists.proofs.Lists.{last-first-same}
use Rattle.lists.specs.Buffer.{left}
use Rattle.layout.specs.declared.MultidimensionalLut.{MultidimensionalLut}
use Rattle.layout.specs.Layout.{laid_of, IsLayout, ink_sizes}
use Rattle.layout.specs.Order.{Steps}
use Rattle.layout.proofs.BySizes.{laid-size, laid-sizes, laid-inks, laid-outputs}
use Rattle.lookup.specs.Table.{answer_with, nan_refusal, refusal, refusal_by_sizes, LookedBySizesWith}
use Rattle.layout.specs.Lengths.{length_refusal}
use Rattle.lookup.specs.Places.{Promised, answer_in, Answered}
use Rattle.lookup.specs.Idle.{reads_at}
use Rattle.lookup.proofs.Grid.{laid-of}
use Rattle.std.specs.Prelude.{Result}
use Rattle.outcome.specs.declared.Refusal.{Refusal}
use Rattle.outcome.specs.Refused.{number_in}
use Rattle.walk.specs.Kept.{reads_in}
use Rattle.walk.specs.Calls.{Counts}

moved : (f f' s : List ℕ) (n n' m m' : ℕ) → f ≡ f' → n ≡ n' → m ≡ m' → Promised f' s n' m' → Promised f s n m
moved f f' s n n' m m' a b c laid = rw (a, b, c) laid

-- only the sizes of the n inks count
promised-by : (filling s s' : List ℕ) (n m : ℕ) → ((i : ℕ) → i < n → get_or s i 0 ≡ get_or s' i 0) → Promised filling s n m → Promised filling s' n m
promised-by filling s s' n m same laid =
    let sizes = last-first-same n s s' same in
    record {
      inks-from = laid.inks-from;
      inks-to = laid.inks-to;
      outputs-to = laid.outputs-to;
      above = λ i h. subst (λ (g : ℕ). 0 < g) (same i h) (laid.above i h);
      narrow = λ i h. ((laid.narrow i h).0, subst (λ (g : ℕ). g < 256) (same i h) (laid.narrow i h).1);
      steps = subst (λ (gs : List ℕ). Steps filling gs m) sizes laid.steps;
      whole = (λ i. get_or filling 0 0 * sym (same 0 laid.inks-from) i) ∙ laid.whole ∙ ap (λ (gs : List ℕ). product gs * m) sizes;
    }

module _ (sizes : List ℕ) (n m : ℕ) (none : (laid_of sizes n m).refusal ≡ 0) where
  abbrev lut : MultidimensionalLut
  lut = (laid_of sizes n m).lut

  gs : last_first n sizes ≡ ink_sizes lut
  gs = sym (laid-sizes sizes n m none)

  inks : n ≡ lut.input_inks
  inks = sym (laid-inks sizes n m none)

  outputs : m ≡ lut.output_inks
  outputs = sym (laid-outputs sizes n m none)

  pub laid-by-sizes : IsLayout lut → (filling : List ℕ) → filling ≡ lut.grid_filling_size → Promised filling sizes n m
  laid-by-sizes is filling row = promised-by filling lut.grid_sizes sizes n m (laid-size sizes n m none) (moved _ _ _ _ _ _ _ row inks outputs (laid-of lut is))

  module _ (skip : Float → Bool) (table inputs old : List Float) (r : ℕ) (now : List Float) (answered : Answered skip (last_first n sizes) n m table inputs old r now) where
    number : r ≡ refusal_by_sizes sizes n m (length table) inputs (length old)
    unfolding refusal
    number =
        answered.number
        ∙ (λ i. length_refusal (product (gs i) * outputs i) (inks i) (length table) (length inputs) (cond (ltb (length old) (outputs i)) 8 (nan_refusal inputs)))
        ∙ ap (λ (k : ℕ). or_else k (refusal true lut (length table) inputs (length old))) (sym none)

    pub looked-by-sizes : LookedBySizesWith skip sizes n m table inputs old r now
    unfolding answer_with
    looked-by-sizes =
        record {
          number = number;
          entries = answered.entries ∙ λ i. left (number i) (answer_in skip (gs i) (outputs i) table inputs) m old;
        }

  -- and the reads
  pub counted-by-sizes : (skip : Float → Bool) (xs : List Float) (r : Result ℕ Refusal) → Counts (reads_in skip (last_first n sizes) xs) r → Counts (reads_at skip lut xs) r
  unfolding reads_at
  counted-by-sizes skip xs r counts = counts ∙ ap (λ (l : List ℕ). on_done (number_in r) (reads_in skip l xs) 0) gs
