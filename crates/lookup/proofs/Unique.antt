-- Each public function asks nothing of its caller, and its statement leaves one outcome. Assumes nothing.
use Prim.Native.Nat.{ℕ}
use mathlib.Core.Path.{◌≡◌, sym, ap, ◌∙◌}
use mathlib.Core.Bool.{Bool}
use mathlib.Core.List.{List}
use lib.Ieee.{Float}
use lib.ListN.{length}
use Rattle.outcome.specs.Outcome.{OneOutcome, on_done}
use Rattle.outcome.proofs.Decided.{decided}
use Rattle.outcome.proofs.Numbers.{same_done}
use Rattle.lists.specs.Buffer.{left}
use Rattle.layout.specs.declared.MultidimensionalLut.{MultidimensionalLut}
use Rattle.lookup.specs.Table.{answer_with, refusal, LookedWith}
use Rattle.lookup.proofs.lookup.Kinds as lookup-kinds
use Rattle.lookup.proofs.lookup.Reads as lookup-reads
use Rattle.lookup.proofs.lookup_by_sizes.Kinds as lookup-by-sizes-kinds
use Rattle.lookup.proofs.lookup_by_sizes.Reads as lookup-by-sizes-reads

-- what a lookup owes leaves one number, whatever is skipped, and one buffer
module _ (lut : MultidimensionalLut) (table inputs old : List Float) where
  pub one_number : (skip other : Float → Bool) (r s : ℕ) (now next : List Float)
      → LookedWith skip lut table inputs old r now → LookedWith other lut table inputs old s next → r ≡ s
  one_number skip other r s now next p q =
      p.number
      ∙ ap (λ (b : Bool). refusal b lut (length table) inputs (length old)) (decided p.laid q.laid p.decides q.decides)
      ∙ sym q.number

  pub one-buffer : (skip : Float → Bool) (r s : ℕ) (now next : List Float)
      → LookedWith skip lut table inputs old r now → LookedWith skip lut table inputs old s next → now ≡ next
  one-buffer skip r s now next p q =
      p.entries
      ∙ ap (λ (k : ℕ). left k (answer_with skip lut table inputs) lut.output_inks old) (one_number skip skip r s now next p q)
      ∙ sym q.entries

-- and, where reads are counted, one count
pub one-count : (reads : ℕ) {r s count other : ℕ} → r ≡ s → count ≡ on_done r reads 0 → other ≡ on_done s reads 0 → count ≡ other
one-count reads number p q = p ∙ ap (λ (k : ℕ). on_done k reads 0) number ∙ sym q

pub lookup-unique : OneOutcome 3 lookup-kinds.ps lookup-kinds.r lookup-reads.Post
lookup-unique κs a x y ws vs p q =
    let entries = one-buffer _ _ _ _ _ _ _ _ _ p q in
    (same_done x y (one_number _ _ _ _ _ _ _ _ _ _ p q), λ i. (tt, (tt, (tt, (entries i, tt)))))

pub lookup-by-sizes-unique : OneOutcome 4 lookup-by-sizes-kinds.ps lookup-by-sizes-kinds.r lookup-by-sizes-reads.Post
lookup-by-sizes-unique κs a x y ws vs p q =
    let entries = p.entries ∙ sym q.entries in
    (same_done x y (p.number ∙ sym q.number), λ i. (tt, (tt, (tt, (tt, (tt, (entries i, tt)))))))

-- no `requires`
pub lookup-asks-nothing : (κs : _) (a : _) → lookup-reads.Pre κs a
lookup-asks-nothing κs a = tt

pub lookup-by-sizes-asks-nothing : (κs : _) (a : _) → lookup-by-sizes-reads.Pre κs a
lookup-by-sizes-asks-nothing κs a = tt
