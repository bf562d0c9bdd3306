use Rattle.std.proofs.Common.{refl, reverse}
use Rattle.lists.specs.Buffer.{written}
use Rattle.lists.proofs.Buffer.{written_next}
use Rattle.lookup.specs.Places.{answer}
use Rattle.lookup.proofs.LastInk.{from-output}
use Rattle.lookup.proofs.value.each.Goals as goal

pub loop-o-init : goal.loop-o-init
unfolding written
loop-o-init c = refl

pub loop-o-preserved : goal.loop-o-preserved
loop-o-preserved c =
    rw (c.loop-o.invariant, c.value.ensures, from-output)
    (written_next (answer c.args.table.now (reverse c.args.inks.now)) c.loop-o.o c.args.out.now)
