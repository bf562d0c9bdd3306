-- The public functions ask nothing of their caller, and each statement leaves one outcome. Assumes nothing.
use mathlib.Core.Path.{refl, sym, ◌∙◌}
use Rattle.outcome.specs.Outcome.{OneOutcome}
use Rattle.lists.proofs.byte_at.Kinds as byte-at-kinds
use Rattle.lists.proofs.byte_at.Reads as byte-at-reads
use Rattle.lists.proofs.first_16.Kinds as first-16-kinds
use Rattle.lists.proofs.first_16.Reads as first-16-reads

pub byte-at-unique : OneOutcome 1 byte-at-kinds.ps byte-at-kinds.r byte-at-reads.Post
byte-at-unique κs a x y ws vs p q = (p ∙ sym q, refl)

pub first-16-unique : OneOutcome 1 first-16-kinds.ps first-16-kinds.r first-16-reads.Post
first-16-unique κs a x y ws vs p q = (p ∙ sym q, refl)

pub byte-at-asks-nothing : (κs : _) (a : _) → byte-at-reads.Pre κs a
byte-at-asks-nothing κs a = tt

pub first-16-asks-nothing : (κs : _) (a : _) → first-16-reads.Pre κs a
first-16-asks-nothing κs a = tt
