-- Each public function asks nothing of its caller, and its statement leaves one outcome. Assumes nothing.
use mathlib.Core.Path.{refl, sym, ◌∙◌}
use Rattle.outcome.specs.Outcome.{OneOutcome}
use Rattle.binary32.proofs.mlaf.Kinds as mlaf-kinds
use Rattle.binary32.proofs.mlaf.Reads as mlaf-reads
use Rattle.binary32.proofs.neg_mlaf.Kinds as neg-mlaf-kinds
use Rattle.binary32.proofs.neg_mlaf.Reads as neg-mlaf-reads
use Rattle.binary32.proofs.fmla.Kinds as fmla-kinds
use Rattle.binary32.proofs.fmla.Reads as fmla-reads
use Rattle.binary32.proofs.lerp.Kinds as lerp-kinds
use Rattle.binary32.proofs.lerp.Reads as lerp-reads
use Rattle.binary32.proofs.along.Kinds as along-kinds
use Rattle.binary32.proofs.along.Reads as along-reads
use Rattle.binary32.proofs.tetra.Kinds as tetra-kinds
use Rattle.binary32.proofs.tetra.Reads as tetra-reads
use Rattle.binary32.proofs.unit.Kinds as unit-kinds
use Rattle.binary32.proofs.unit.Reads as unit-reads

pub mlaf-unique : OneOutcome 0 mlaf-kinds.ps mlaf-kinds.r mlaf-reads.Post
mlaf-unique κs a x y ws vs p q = (p ∙ sym q, refl)

pub neg-mlaf-unique : OneOutcome 0 neg-mlaf-kinds.ps neg-mlaf-kinds.r neg-mlaf-reads.Post
neg-mlaf-unique κs a x y ws vs p q = (p ∙ sym q, refl)

pub fmla-unique : OneOutcome 0 fmla-kinds.ps fmla-kinds.r fmla-reads.Post
fmla-unique κs a x y ws vs p q = (p ∙ sym q, refl)

pub lerp-unique : OneOutcome 0 lerp-kinds.ps lerp-kinds.r lerp-reads.Post
lerp-unique κs a x y ws vs p q = (p ∙ sym q, refl)

pub along-unique : OneOutcome 0 along-kinds.ps along-kinds.r along-reads.Post
along-unique κs a x y ws vs p q = (p ∙ sym q, refl)

pub tetra-unique : OneOutcome 0 tetra-kinds.ps tetra-kinds.r tetra-reads.Post
tetra-unique κs a x y ws vs p q = (p ∙ sym q, refl)

pub unit-unique : OneOutcome 0 unit-kinds.ps unit-kinds.r unit-reads.Post
unit-unique κs a x y ws vs p q = (p ∙ sym q, refl)

-- no `requires`
pub mlaf-asks-nothing : (κs : _) (a : _) → mlaf-reads.Pre κs a
mlaf-asks-nothing κs a = tt

pub neg-mlaf-asks-nothing : (κs : _) (a : _) → neg-mlaf-reads.Pre κs a
neg-mlaf-asks-nothing κs a = tt

pub fmla-asks-nothing : (κs : _) (a : _) → fmla-reads.Pre κs a
fmla-asks-nothing κs a = tt

pub lerp-asks-nothing : (κs : _) (a : _) → lerp-reads.Pre κs a
lerp-asks-nothing κs a = tt

pub along-asks-nothing : (κs : _) (a : _) → along-reads.Pre κs a
along-asks-nothing κs a = tt

pub tetra-asks-nothing : (κs : _) (a : _) → tetra-reads.Pre κs a
tetra-asks-nothing κs a = tt

pub unit-asks-nothing : (κs : _) (a : _) → unit-reads.Pre κs a
unit-asks-nothing κs a = tt
