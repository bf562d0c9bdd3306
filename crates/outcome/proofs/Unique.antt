-- The public functions ask nothing of their caller, and each statement leaves one outcome. Assumes nothing.
use Rattle.std.proofs.Common.{◌≡◌, refl, sym, ◌∙◌}
use denote.RattleType.{RattleType}
use denote.Param.Laws.{Laws}
use mir.Syntax.{Dict}
use Rattle.outcome.specs.Outcome.{OneOutcome}
use Rattle.outcome.proofs.U32FromRefusal.from.Kinds as from-kinds
use Rattle.outcome.proofs.U32FromRefusal.from.Reads as from-reads
use Rattle.outcome.proofs.number.Reads as number-reads

pub from-unique : OneOutcome 0 from-kinds.ps from-kinds.r from-reads.Post
from-unique κs a x y ws vs p q = (p ∙ sym q, refl)

pub from-asks-nothing : (κs : _) (a : _) → from-reads.Pre κs a
from-asks-nothing κs a = tt

-- Of an answer with a value of any type the number is one. (What stands behind a `&mut` within that value is for its type to say, and that its lifetimes last.)
module _ (T : RattleType) (laws : Laws T) (D : Dict) where
  pub number-unique : (κs : _) (a : _) (x y : _) (ws vs : _) → number-reads.Post T laws D κs a x ws → number-reads.Post T laws D κs a y vs → x ≡ y
  number-unique κs a x y ws vs p q = p ∙ sym q
