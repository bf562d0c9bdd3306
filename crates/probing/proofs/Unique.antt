-- `probed` asks nothing of its caller, and its statement leaves one outcome: how many bytes, and every byte of the buffer afterwards.
-- Assumes nothing.
use Prim.Native.Nat.{ℕ}
use mathlib.Core.Path.{◌≡◌, sym, ◌∙◌, ap}
use mathlib.Core.List.{List, ◌++◌}
use lib.ListN.{drop}
use Rattle.outcome.specs.Outcome.{OneOutcome}
use Rattle.probing.specs.Probe.{probe_output}
use Rattle.probing.proofs.probed.Kinds as probed-kinds
use Rattle.probing.proofs.probed.Reads as probed-reads

pub probed-unique : OneOutcome 2 probed-kinds.ps probed-kinds.r probed-reads.Post
probed-unique κs a x y ws vs p q =
    let output = probe_output a.0.now in
    let count : x ≡ y = p.count ∙ sym q.count in
    let bytes : ws.1.0 ≡ vs.1.0 = p.bytes ∙ ap (λ (r : ℕ). output ++ drop r a.1.0.now) count ∙ sym q.bytes in
    (count, ap (λ (l : List ℕ). (tt, (l, tt))) bytes)

-- no `requires`
pub probed-asks-nothing : (κs : _) (a : _) → probed-reads.Pre κs a
probed-asks-nothing κs a = tt
