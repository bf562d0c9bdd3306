-- Each public function asks nothing of its caller, and its statement leaves one outcome. Assumes nothing.
use Rattle.std.proofs.Common.{sym, refl, ◌∙◌}
use Rattle.outcome.specs.Outcome.{OneOutcome}
use Rattle.cell.proofs.clip.Kinds as clip-kinds
use Rattle.cell.proofs.clip.Reads as clip-reads
use Rattle.cell.proofs.ink_cell.Kinds as ink-cell-kinds
use Rattle.cell.proofs.ink_cell.Reads as ink-cell-reads
use Rattle.cell.proofs.placed.Kinds as placed-kinds
use Rattle.cell.proofs.placed.Reads as placed-reads

pub clip-unique : OneOutcome 0 clip-kinds.ps clip-kinds.r clip-reads.Post
clip-unique κs a x y ws vs p q = (p ∙ sym q, refl)

pub ink-cell-unique : OneOutcome 0 ink-cell-kinds.ps ink-cell-kinds.r ink-cell-reads.Post
ink-cell-unique κs a x y ws vs p q = (p ∙ sym q, refl)

pub placed-unique : OneOutcome 0 placed-kinds.ps placed-kinds.r placed-reads.Post
placed-unique κs a x y ws vs p q = (p ∙ sym q, refl)

-- no `requires`
pub clip-asks-nothing : (κs : _) (a : _) → clip-reads.Pre κs a
clip-asks-nothing κs a = tt

pub ink-cell-asks-nothing : (κs : _) (a : _) → ink-cell-reads.Pre κs a
ink-cell-asks-nothing κs a = tt

pub placed-asks-nothing : (κs : _) (a : _) → placed-reads.Pre κs a
placed-asks-nothing κs a = tt
