-- The public function asks nothing of its caller, and its statement leaves one outcome. Assumes nothing.
use Prim.Native.Nat.{ℕ}
use mathlib.Core.Path.{◌≡◌, sym, ap, ◌∙◌}
use mathlib.Core.Bool.{Bool}
use mathlib.Core.List.{List}
use lib.Ieee.{Float, nan}
use lib.ListN.{length, get_or}
use Rattle.outcome.specs.Outcome.{OneOutcome}
use Rattle.outcome.specs.Refused.{number_in}
use Rattle.outcome.proofs.Decided.{decided}
use Rattle.outcome.proofs.Numbers.{same_done}
use Rattle.lists.specs.Buffer.{left}
use Rattle.layout.specs.Layout.{entries}
use Rattle.grid_slab.specs.Slab.{fewer, slab, refusal}
use Rattle.grid_slab.proofs.cut_slab.Kinds as cut-slab-kinds
use Rattle.grid_slab.proofs.cut_slab.Reads as cut-slab-reads

pub cut-slab-unique : OneOutcome 2 cut-slab-kinds.ps cut-slab-kinds.r cut-slab-reads.Post
cut-slab-unique κs a x y ws vs p q =
    let lut = a.0 in
    let table = a.1.0.now in
    let j = a.1.1.0 in
    let k = a.1.1.1.0 in
    let old = a.1.1.1.1.0.now in
    let number : number_in x ≡ number_in y =
    p.number
    ∙ ap (λ (b : Bool). refusal b lut (length table) j k (length old)) (decided p.laid q.laid p.decides q.decides)
    ∙ sym q.number in
    let now : ws.1.1.1.1.0 ≡ vs.1.1.1.1.0 =
    p.entries ∙ ap (λ (r : ℕ). left r (λ e. get_or (slab lut table j k) e nan) (entries (fewer lut j)) old) number ∙ sym q.entries in
    (same_done x y number, ap (λ (l : List Float). (tt, (tt, (tt, (tt, (l, tt)))))) now)

-- no `requires`
pub cut-slab-asks-nothing : (κs : _) (a : _) → cut-slab-reads.Pre κs a
cut-slab-asks-nothing κs a = tt
