-- `walk::corners::distances`: there is room for twice as many corners, and each distance fits.
use Rattle.std.proofs.Common.{arith}
use Rattle.walk.proofs.Steps.{room_for, sums-fit, placed-more, zeroed-length}
use Rattle.walk.proofs.corners.distances.Goals as goal

pub double-requires-clause-count_in_bounds : goal.double-requires-clause-count_in_bounds
double-requires-clause-count_in_bounds c = room_for _ _ _ _ _ _ _ c.loop-i.invariant c.loop-i-test.true (omega (arith, zeroed-length c.args.offs.now))

pub double-requires-clause-by_index : goal.double-requires-clause-by_index
double-requires-clause-by_index c = sums-fit _ _ _ _ _ _ _ c.loop-i.invariant c.loop-i-test.true c.requires.k_bound_2

pub loop-i-preserved : goal.loop-i-preserved
loop-i-preserved c = placed-more _ _ _ _ _ _ _ c.loop-i.invariant c.loop-i-test.true (omega (arith, zeroed-length c.args.offs.now)) _ c.double.ensures
