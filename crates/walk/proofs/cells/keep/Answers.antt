-- `walk::cells::keep`: where nothing is skipped, and the next ink.
use Rattle.std.proofs.Common.{◌≡◌, Bool, false, not, ap, arith, ◌∙◌}
use mir.Val.{bool_byte}
use Rattle.walk.proofs.Kept.{never-kept, keeping-more, place}
use Rattle.walk.proofs.cells.keep.Goals as goal

pub returns-then-not-skipping-clause-inks : goal.returns-then-not-skipping-clause-inks
returns-then-not-skipping-clause-inks c =
    let off : c.args.skipping ≡ false = c.if-not-skipping.true in
    rw off (never-kept c.args.axes.now c.args.n c.requires.0)

pub loop-i-preserved : goal.loop-i-preserved
loop-i-preserved c =
    keeping-more _ _ _ _ _ c.loop-i.invariant (omega arith) _ (c.from-at.ensures ∙ ap (λ (b : Bool). bool_byte (not b)) c.skipped.ensures ∙ place _)
