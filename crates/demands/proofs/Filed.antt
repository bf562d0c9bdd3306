-- Demand 3 in a table that was read from a table file: its floats are those of the file's bits (`float_read`), and where they are from 0 to 1, demand 3 holds of it, by the
-- record that was read and by the sizes and counts that came back. Assumes nothing.
use Prim.Native.Nat.{ℕ, ◌<◌}
use mathlib.Core.Path.{◌≡◌, sym, ap, subst, ◌∙◌}
use mathlib.Core.List.{List}
use native.Mathlib.Omega.{arith}
use lib.Dec.{T}
use lib.Pow.{are_bytes}
use lib.Ieee.{nan, binary32, of_bits}
use lib.ListN.{length, get_or}
use Rattle.lists.proofs.Lists.{get_or-tabulate}
use Rattle.binary32.specs.Range.{Share}
use Rattle.layout.specs.declared.MultidimensionalLut.{MultidimensionalLut}
use Rattle.layout.specs.Layout.{Laid}
use Rattle.layout.specs.Layout.{laid_of, entries}
use Rattle.lookup.specs.Table.{answer_at}
use Rattle.flash.specs.Refusals.{layout_in, total_in}
use Rattle.flash.specs.Read.{entry_in, TableRead, floats_of}
use Rattle.flash.specs.BySizes.{TableTaken}
use Rattle.flash.proofs.RoundTrips.{read_is, read-is-layout, entry_read, room-read}
use Rattle.flash.proofs.BySizes.{taken-laid, taken-done}
use Rattle.demands.specs.Demand.{Shares, NodesKept, LinesCut}
use Rattle.demands.proofs.Demands.{at-a-node, on-a-line}

module _ (file old : List ℕ) (r : Laid) (now : List ℕ) (read : TableRead file old r now) (done : r.refusal ≡ 0) where
  -- each float is that of the file's bits
  pub float_read : (e : ℕ) → e < total_in file → get_or (floats_of now) e nan ≡ of_bits binary32 (entry_in file e)
  unfolding floats_of
  float_read e h =
      get_or-tabulate (length now) (λ k. of_bits binary32 (get_or now k 0)) e nan (omega (arith, room-read file old r now read done))
      ∙ ap (of_bits binary32) (entry_read file old r now read done e h)

  module _ (bytes : T (are_bytes file)) (shares : (e : ℕ) → e < total_in file → Share (of_bits binary32 (entry_in file e))) where
    shares-filed : Shares (floats_of now) (entries r.lut)
    shares-filed e h =
        let low : e < total_in file = omega (arith, ap (λ (l : Laid). entries l.lut) (read_is file old r now read done)) in
        subst Share (sym (float_read e low)) (shares e low)

    pub nodes-filed : NodesKept answer_at r.lut (floats_of now)
    nodes-filed = at-a-node r.lut (read-is-layout file old r now read done bytes) (floats_of now) shares-filed

    pub lines-filed : LinesCut answer_at r.lut (floats_of now)
    lines-filed = on-a-line r.lut (read-is-layout file old r now read done bytes) (floats_of now) shares-filed

-- through C: of the sizes and counts that came back
module _ (file : List ℕ) (bytes : T (are_bytes file)) (s₀ : List ℕ) (n₀ m₀ : ℕ) (t₀ s : List ℕ) (n m : ℕ) (t : List ℕ) (took : TableTaken file s₀ n₀ m₀ t₀ 0 s n m t)
    (shares : (e : ℕ) → e < total_in file → Share (of_bits binary32 (entry_in file e))) where
  lut-is : (layout_in file).lut ≡ (laid_of s n m).lut
  lut-is = sym (ap (λ (l : Laid). l.lut) (taken-laid file bytes s₀ n₀ m₀ t₀ s n m t took))

  pub nodes-filed-by-sizes : NodesKept answer_at (laid_of s n m).lut (floats_of t)
  nodes-filed-by-sizes =
      let is = taken-done file s₀ n₀ m₀ t₀ s n m t took in
      subst (λ (l : MultidimensionalLut). NodesKept answer_at l (floats_of t)) lut-is (nodes-filed file t₀ (layout_in file) t is.0 is.1 bytes shares)

  pub lines-filed-by-sizes : LinesCut answer_at (laid_of s n m).lut (floats_of t)
  lines-filed-by-sizes =
      let is = taken-done file s₀ n₀ m₀ t₀ s n m t took in
      subst (λ (l : MultidimensionalLut). LinesCut answer_at l (floats_of t)) lut-is (lines-filed file t₀ (layout_in file) t is.0 is.1 bytes shares)
