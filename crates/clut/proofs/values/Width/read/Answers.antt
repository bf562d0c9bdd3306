-- Four entries more, or one.
use Rattle.std.proofs.Common.{◌*◌, refl, arith}
use Rattle.lists.specs.Buffer.{written}
use Rattle.clut.proofs.Entries.{one-more, four-more}
use Rattle.clut.proofs.values.Width.read.Goals as goal

pub loop-four-init : goal.loop-four-init
unfolding written
loop-four-init c = refl

pub loop-four-preserved : goal.loop-four-preserved
loop-four-preserved c =
    four-more _ c.args.entries.now (4 * c.loop-four.four) _ _ _ _ _ _ (omega arith) c.loop-four.invariant
    c.entry-a.ensures c.entry-b.ensures c.entry-c.ensures c.entry-d.ensures

pub loop-e-preserved : goal.loop-e-preserved
loop-e-preserved c = one-more _ c.args.entries.now c.loop-e.e _ _ _ refl c.loop-e.invariant c.entry.ensures
