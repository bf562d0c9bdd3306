-- Each public function asks nothing of its caller, and its statement leaves one outcome.
-- Assumes nothing.
use mathlib.Core.Path.{refl, sym, ◌∙◌}
use Rattle.outcome.specs.Outcome.{OneOutcome}
use Rattle.patterns.proofs.bits.Kinds as bits-kinds
use Rattle.patterns.proofs.bits.Reads as bits-reads
use Rattle.patterns.proofs.float.Kinds as float-kinds
use Rattle.patterns.proofs.float.Reads as float-reads
use Rattle.patterns.proofs.hex.Kinds as hex-kinds
use Rattle.patterns.proofs.hex.Reads as hex-reads

pub bits-unique : OneOutcome 0 bits-kinds.ps bits-kinds.r bits-reads.Post
bits-unique κs a x y ws vs p q = (p ∙ sym q, refl)

pub float-unique : OneOutcome 0 float-kinds.ps float-kinds.r float-reads.Post
float-unique κs a x y ws vs p q = (p ∙ sym q, refl)

pub hex-unique : OneOutcome 0 hex-kinds.ps hex-kinds.r hex-reads.Post
hex-unique κs a x y ws vs p q = (p ∙ sym q, refl)

-- no `requires`
pub bits-asks-nothing : (κs : _) (a : _) → bits-reads.Pre κs a
bits-asks-nothing κs a = tt

pub float-asks-nothing : (κs : _) (a : _) → float-reads.Pre κs a
float-asks-nothing κs a = tt

pub hex-asks-nothing : (κs : _) (a : _) → hex-reads.Pre κs a
hex-asks-nothing κs a = tt
