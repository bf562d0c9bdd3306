-- `walk::looked`: a record that is no layout's is refused, else what is owed after an accepted layout.
use Rattle.std.proofs.Common.{ap, not}
use Rattle.lookup.specs.Idle.{reads_at}
use Rattle.lookup.proofs.Grid.{laid-of}
use Rattle.lookup.proofs.Refusals.{looked-refused, looked-answered}
use Rattle.walk.specs.Kept.{skip_of}
use Rattle.walk.proofs.looked.Goals as goal

pub returns-then-not-is_layout-clause-looked : goal.returns-then-not-is_layout-clause-looked
returns-then-not-is_layout-clause-looked c =
    looked-refused (skip_of c.args.skipping) _ _ _ _ _ c.is_layout.ensures (ap not c.if-not-is_layout.true)

pub answered-requires : goal.answered-requires
answered-requires c = laid-of _ (c.is_layout.ensures.holds c.if-not-is_layout.false)

pub returns-clause-looked : goal.returns-clause-looked
returns-clause-looked c =
    looked-answered (skip_of c.args.skipping) _ _ _ _ _ c.is_layout.ensures c.if-not-is_layout.false _ _ c.answered.ensures.answered

pub returns-clause-counted : goal.returns-clause-counted
unfolding reads_at
returns-clause-counted c = c.answered.ensures.counted
