-- The exported function asks nothing of its caller, and its statement leaves one outcome. Assumes nothing.
use Rattle.std.proofs.Common.{sym, ◌∙◌}
use Rattle.outcome.specs.Outcome.{OneOutcome}
use Rattle.first.proofs.first_lookup.Kinds as kinds
use Rattle.first.proofs.first_lookup.Reads as reads

pub first-lookup-unique : OneOutcome 4 kinds.ps kinds.r reads.Post
first-lookup-unique κs a x y ws vs p q =
    let entries = p.entries ∙ sym q.entries in
    (p.number ∙ sym q.number, λ i. (tt, (tt, (tt, (tt, (tt, (entries i, tt)))))))

-- no `requires`
pub first-lookup-asks-nothing : (κs : _) (a : _) → reads.Pre κs a
first-lookup-asks-nothing κs a = tt
