-- Each public function asks nothing of its caller, and its statement leaves one outcome.
-- Assumes nothing.
use Prim.Native.Nat.{ℕ}
use mathlib.Core.Path.{◌≡◌, refl, sym, ap, ◌∙◌}
use Rattle.std.specs.Prelude.{Result, List}
use Rattle.cell.specs.declared.Cell.{Cell}
use Rattle.outcome.specs.declared.Refusal.{Refusal}
use Rattle.outcome.proofs.Numbers.{same_answer}
use Rattle.weights.specs.Rule.{RangedCell, Ranged, ranged_cell_in, ranged_in}
use Rattle.outcome.specs.Outcome.{OneOutcome}
use Rattle.weights.proofs.ranged_256.Kinds as ranged-256-kinds
use Rattle.weights.proofs.ranged_256.Reads as ranged-256-reads
use Rattle.weights.proofs.ranged_33.Kinds as ranged-33-kinds
use Rattle.weights.proofs.ranged_33.Reads as ranged-33-reads
use Rattle.weights.proofs.create_ranged_256.Kinds as create-ranged-256-kinds
use Rattle.weights.proofs.create_ranged_256.Reads as create-ranged-256-reads

-- two answers that say the same are one
same-cell : (x y : Result Cell Refusal) → ranged_cell_in x ≡ ranged_cell_in y → x ≡ y
same-cell x y h =
    let cell : RangedCell → Cell = λ r. r.cell in
    let number : RangedCell → ℕ = λ r. r.refusal in
    same_answer x y (ap number h) (λ a b p q. ap cell (sym (ap ranged_cell_in p) ∙ h ∙ ap ranged_cell_in q))

same-weights : (x y : Result (List Cell) Refusal) → ranged_in x ≡ ranged_in y → x ≡ y
same-weights x y h =
    let weights : Ranged → List Cell = λ r. r.weights in
    let number : Ranged → ℕ = λ r. r.refusal in
    same_answer x y (ap number h) (λ a b p q. ap weights (sym (ap ranged_in p) ∙ h ∙ ap ranged_in q))

pub ranged-256-unique : OneOutcome 0 ranged-256-kinds.ps ranged-256-kinds.r ranged-256-reads.Post
ranged-256-unique κs a x y ws vs p q = (same-cell x y (p ∙ sym q), refl)

pub create-ranged-256-unique : OneOutcome 0 create-ranged-256-kinds.ps create-ranged-256-kinds.r create-ranged-256-reads.Post
create-ranged-256-unique κs a x y ws vs p q = (same-weights x y (p ∙ sym q), refl)

pub ranged-33-unique : OneOutcome 0 ranged-33-kinds.ps ranged-33-kinds.r ranged-33-reads.Post
ranged-33-unique κs a x y ws vs p q = (p ∙ sym q, refl)

-- no `requires`
pub ranged-256-asks-nothing : (κs : _) (a : _) → ranged-256-reads.Pre κs a
ranged-256-asks-nothing κs a = tt

pub create-ranged-256-asks-nothing : (κs : _) (a : _) → create-ranged-256-reads.Pre κs a
create-ranged-256-asks-nothing κs a = tt

pub ranged-33-asks-nothing : (κs : _) (a : _) → ranged-33-reads.Pre κs a
ranged-33-asks-nothing κs a = tt
