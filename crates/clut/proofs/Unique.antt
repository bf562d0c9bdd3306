-- Each public function asks nothing of its caller, and its statement leaves one outcome. Assumes nothing.
use Prim.Native.Nat.{ℕ}
use mathlib.Core.Path.{◌≡◌, sym, ap, ◌∙◌}
use mathlib.Core.List.{List}
use lib.Ieee.{Float}
use Rattle.outcome.specs.Outcome.{OneOutcome}
use Rattle.outcome.proofs.Numbers.{same_done}
use Rattle.lists.specs.Buffer.{left}
use Rattle.layout.proofs.Unique.{same_laid}
use Rattle.clut.specs.Units.{entry_at, UnitsRead}
use Rattle.clut.proofs.read_clut.Kinds as read-clut-kinds
use Rattle.clut.proofs.read_clut.Reads as read-clut-reads
use Rattle.clut.proofs.read_units.Kinds as read-units-kinds
use Rattle.clut.proofs.read_units.Reads as read-units-reads

-- the statement of values read leaves one number and one buffer
pub units-one : {bytes : List ℕ} {precision count : ℕ} {old : List Float} {x y : ℕ} {v w : List Float}
    → UnitsRead bytes precision count old x v → UnitsRead bytes precision count old y w → (x ≡ y) × (v ≡ w)
units-one {bytes} {precision} {count} {old} p q =
    let number = p.number ∙ sym q.number in
    (number, p.entries ∙ ap (λ (r : ℕ). left r (entry_at precision bytes) count old) number ∙ sym q.entries)

pub read-units-unique : OneOutcome 2 read-units-kinds.ps read-units-kinds.r read-units-reads.Post
read-units-unique κs a x y ws vs p q = let one = units-one p q in (same_done x y one.0, λ i. (tt, (tt, (tt, (one.1 i, tt)))))

pub read-clut-unique : OneOutcome 2 read-clut-kinds.ps read-clut-kinds.r read-clut-reads.Post
read-clut-unique κs a x y ws vs p q =
    let table = p.table ∙ sym q.table in
    (same_laid x y (p.answer ∙ sym q.answer), λ i. (tt, (tt, (tt, (table i, tt)))))

-- no `requires`
pub read-units-asks-nothing : (κs : _) (a : _) → read-units-reads.Pre κs a
read-units-asks-nothing κs a = tt

pub read-clut-asks-nothing : (κs : _) (a : _) → read-clut-reads.Pre κs a
read-clut-asks-nothing κs a = tt
