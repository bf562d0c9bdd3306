-- The public function asks nothing of its caller, and its statement leaves one outcome, whichever the method is.
-- Assumes nothing.
use Prim.Native.Nat.{ℕ}
use mathlib.Core.Path.{◌≡◌, sym, ap, ◌∙◌}
use mathlib.Core.List.{List}
use lib.Ieee.{Float}
use Rattle.outcome.specs.Outcome.{OneOutcome}
use Rattle.outcome.proofs.Numbers.{same_done}
use Rattle.cell.specs.declared.Cell.{Cell}
use Rattle.lists.specs.Buffer.{left}
use Rattle.cubes.specs.Blends.{Blend}
use Rattle.cubes.specs.Cube.{answer_at, Blended}
use Rattle.cubes.proofs.interpolate.Kinds as interpolate-kinds
use Rattle.cubes.proofs.interpolate.Reads as interpolate-reads

-- whatever the blend is
one : (blend : Blend) (cx cy cz : Cell) (g m : ℕ) (cube old : List Float) (r s : ℕ) (now then : List Float)
    → Blended blend cx cy cz g m cube old r now → Blended blend cx cy cz g m cube old s then → (r ≡ s) × (now ≡ then)
one blend cx cy cz g m cube old r s now then p q =
    let number : r ≡ s = p.number ∙ sym q.number in
    (number, p.entries ∙ ap (λ (k : ℕ). left k (answer_at blend cx cy cz g m cube) m old) number ∙ sym q.entries)

pub interpolate-unique : OneOutcome 2 interpolate-kinds.ps interpolate-kinds.r interpolate-reads.Post
interpolate-unique κs a x y ws vs p q =
    let same = one _ _ _ _ _ _ _ _ _ _ _ _ p q in
    -- of the parameters only `answer` can change
    (same_done x y same.0, ap (λ (l : List Float). (tt, (tt, (tt, (l, tt))))) same.1)

-- no `requires`
pub interpolate-asks-nothing : (κs : _) (a : _) → interpolate-reads.Pre κs a
interpolate-asks-nothing κs a = tt
