-- `walk::looked_by_sizes`: what is owed after an accepted layout.
use Rattle.std.proofs.Common.{sym, refl, ◌∙◌}
use Rattle.outcome.proofs.Refused.{given}
use Rattle.walk.specs.Kept.{skip_of}
use Rattle.walk.proofs.BySizes.{laid-by-sizes, looked-by-sizes, counted-by-sizes}
use Rattle.walk.proofs.looked_by_sizes.Goals as goal

pub answered-requires : goal.answered-requires
answered-requires c =
    let filled = c.in_ok-filling_sizes.ensures in
    laid-by-sizes c.args.sizes.now c.args.n c.args.m (sym filled.number) (filled.laid refl) _ (filled.row ∙ sym (given _ _ _ filled.number))

pub returns-clause-looked : goal.returns-clause-looked
returns-clause-looked c =
    looked-by-sizes c.args.sizes.now c.args.n c.args.m (sym c.in_ok-filling_sizes.ensures.number) (skip_of c.args.skipping) c.args.table.now c.args.inputs.now
    c.args.answer.now _ _ c.answered.ensures.answered

pub returns-clause-counted : goal.returns-clause-counted
returns-clause-counted c =
    counted-by-sizes c.args.sizes.now c.args.n c.args.m (sym c.in_ok-filling_sizes.ensures.number) (skip_of c.args.skipping) c.args.inputs.now
    c.answered.result c.answered.ensures.counted
