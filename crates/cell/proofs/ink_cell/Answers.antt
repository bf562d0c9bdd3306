-- A NaN has no cell, and the cell of an ink is its callees' put together.
use Rattle.std.proofs.Common.{◌≡◌, ℕ, Some, Bool, true, false, cond, sym, refl, subst, ◌∙◌}
use lib.Ieee.{Float, is_nan}
use Rattle.binary32.specs.Range.{UpTo}
use Rattle.cell.specs.Rule.{product_of, cell_at, cell_low, cell_high, ink_cell, ink_of, clip_of}
use Rattle.cell.proofs.Said.{said_some, said_none}
use Rattle.cell.proofs.Within.{ink-up_to}
use Rattle.cell.proofs.ink_cell.Goals as goal

pub returns-in_err-ink : goal.returns-in_err-ink
unfolding clip_of
returns-in_err-ink c = c.from_residual.ensures ∙ simp (said_none (is_nan c.args.x) _ c.in_err-ink.ensures)

-- an ink, of a number
ink-is : (x v : Float) → Some v ≡ clip_of x → (is_nan x ≡ false) × (v ≡ ink_of x)
unfolding clip_of
ink-is x v said = said_some (is_nan x) v (ink_of x) said

pub new-product-requires : goal.new-product-requires
new-product-requires c = subst (UpTo 1) (sym (ink-is c.args.x _ c.in_ok-ink.ensures).1) (ink-up_to c.args.x)

-- the rule decides the upper node alone
either : (b : Bool) (p : Float) (u v : ℕ) → cell_at p (cond b u v) ≡ cond b (cell_at p u) (cell_at p v)
either true p u v = refl
either false p u v = refl

pub returns : goal.returns
unfolding ink_cell cell_low cell_high product_of
returns c =
    let said = ink-is c.args.x c.in_ok-ink.ink c.in_ok-ink.ensures in
    simp (said.0, c.cell.ensures, c.upper_node.ensures, c.new-product.ensures, said.1, either)
