-- Demand 3 by what the calls leave: a lookup in the whole table, a cut, and a lookup with one ink fewer in what the cut wrote. Assumes nothing.
use Prim.Native.Nat.{ℕ, ◌-◌, ◌<◌}
use mathlib.Core.Path.{◌≡◌, sym, ap, ◌∙◌, subst}
use mathlib.Core.List.{List}
use native.Mathlib.Omega.{arith}
use lib.Dec.{T}
use lib.Pow.{are_bytes}
use lib.Ieee.{Float, nan}
use lib.ListN.{length, get_or, take}
use Rattle.binary32.specs.Same.{plain, Same}
use Rattle.layout.specs.declared.MultidimensionalLut.{MultidimensionalLut}
use Rattle.layout.specs.Layout.{Laid}
use Rattle.layout.specs.Layout.{laid_of, entries}
use Rattle.layout.proofs.BySizes.{laid-is-layout, laid-inks}
use Rattle.lookup.specs.Lookup.{never}
use Rattle.lookup.specs.Table.{answer_at, Looked}
use Rattle.grid_slab.specs.Slab.{without, fewer, SlabCut}
use Rattle.grid_slab.proofs.Fewer.{fewer-outputs, laid-fewer}
use Rattle.grid_slab.proofs.Cutting.{cut-passed}
use Rattle.demands.specs.Demand.{Cuttable, AcceptedInputs, Shares, OnLine}
use Rattle.demands.proofs.Demands.{on-a-line}
use Rattle.demands.proofs.Inputs.{looked-accepted, looked-at}

-- by a record
pub calls-agree : (lut : MultidimensionalLut) (table xs : List Float) (j k : ℕ) → Shares table (entries lut) → Cuttable j lut.input_inks → OnLine lut xs (j - 1) k
    → (old₁ whole : List Float) → Looked lut table xs old₁ 0 whole
    → (old₂ slab : List Float) → SlabCut lut table j k old₂ 0 slab
    → (old₃ smaller : List Float) → Looked (fewer lut j) slab (without (j - 1) xs) old₃ 0 smaller
    → (o : ℕ) → o < lut.output_inks → Same (get_or whole o nan) (get_or smaller o nan)
calls-agree lut table xs j k shares may on old₁ whole first old₂ slab cut old₃ smaller second o h =
    let p = cut-passed lut table j k old₂ slab cut in
    ap plain (looked-at never lut table xs old₁ whole first o h)
    ∙ on-a-line lut p.is table shares xs (looked-accepted never lut table xs old₁ whole first) j k may on old₂ slab cut o h
    ∙ ap plain (sym (looked-at never (fewer lut j) slab (without (j - 1) xs) old₃ smaller second o
    (omega (arith, fewer-outputs lut p.is p.two j p.from p.to))))

-- by sizes and counts, as C asks it: the sizes with ink j's taken out, and one ink fewer
module _ (sizes : List ℕ) (n m : ℕ) (none : (laid_of sizes n m).refusal ≡ 0) (sixteen : length sizes ≡ 16) (bytes : T (are_bytes sizes)) where
  abbrev lut : MultidimensionalLut
  lut = (laid_of sizes n m).lut

  pub by-sizes : (others : List ℕ) (table xs : List Float) (j k : ℕ) → take (n - 1) others ≡ without (j - 1) (take n sizes) → Shares table (entries lut) → AcceptedInputs lut xs → Cuttable j n → OnLine lut xs (j - 1) k
      → (old slab : List Float) → SlabCut lut table j k old 0 slab
      → (o : ℕ) → o < lut.output_inks → Same (answer_at lut table xs o) (answer_at (laid_of others (n - 1) m).lut slab (without (j - 1) xs) o)
  by-sizes others table xs j k these shares accepted may on old slab cut o h =
      let inks = laid-inks sizes n m none in
      let is = laid-is-layout sizes n m none sixteen bytes in
      let p = cut-passed lut table j k old slab cut in
      on-a-line lut is table shares xs accepted j k (subst (Cuttable j) (sym inks) may) on old slab cut o h
      ∙ ap (λ (l : Laid). plain (answer_at l.lut slab (without (j - 1) xs) o)) (sym (laid-fewer sizes others n m j none sixteen is (omega (arith, inks, p.two)) p.from (omega (arith, inks, p.to)) these))
